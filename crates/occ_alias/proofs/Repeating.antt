-- Diagnostics that come several times in a row.
use Rattle.std.specs.Prelude.{◌+◌, replicate, if◌then◌else◌}
use Rattle.std.specs.BTreeSet.{insert_key}
use Rattle.std.specs.Ordering.{match_ordering, ordering_reverse}
use Rattle.std.specs.declared.cmp.Ordering.{Ordering}
use Rattle.std.specs.declared.cmp.Ordering.TheVariants.{Less, Equal, Greater}
use Rattle.std.proofs.Common.{arith, ◌≡◌, ◌∙◌, ℕ, zero, suc, Bool, true, false, Option, List, [], ◌∷◌, ◌++◌, refl, ap, sym, append_assoc, Result, Ok, Err, OnOk}
use Rattle.occ_alias.specs.Grades.{all_unless_reported, checks_of, graded_as, if_check, is_among, is_check, unless_reported, with_error, with_errors}
use Rattle.occ_alias.specs.Repeated.{all_diags, run_diags}
use Rattle.occ_alias.specs.declared.reported.Run.{Run}
use Rattle.occ_base.specs.Order.{diag_order}
use Rattle.occ_base.specs.contracts.diag.DiagOrd.TheImpl.Laws.{total-law}
use Rattle.occ_base.specs.declared.code.Code.{Code}
use Rattle.occ_base.specs.declared.code.Grade.{Grade}
use Rattle.occ_base.specs.declared.code.Grade.TheVariants as grade
use Rattle.occ_base.specs.declared.diag.Diag.{Diag}

append-nil : {X : Type 0} (xs : List X) → xs ++ [] ≡ xs
append-nil [] = refl
append-nil (x ∷ xs) = ap (λ ys. x ∷ ys) (append-nil xs)

replicate_last : {X : Type 0} (n : ℕ) (x : X) → replicate n x ++ x ∷ [] ≡ x ∷ replicate n x
replicate_last zero x = refl
replicate_last (suc n) x = ap (λ xs. x ∷ xs) (replicate_last n x)

-- ---- runs

pub runs_last : (rs : List Run) (r : Run) → all_diags (rs ++ r ∷ []) ≡ all_diags rs ++ run_diags r
runs_last [] r = append-nil (run_diags r)
runs_last (s ∷ rs) r = ap (λ ds. run_diags s ++ ds) (runs_last rs r) ∙ sym (append_assoc (run_diags s) (all_diags rs) (run_diags r))

pub runs_both : (rs ss : List Run) → all_diags (rs ++ ss) ≡ all_diags rs ++ all_diags ss
runs_both [] ss = refl
runs_both (r ∷ rs) ss = ap (λ ds. run_diags r ++ ds) (runs_both rs ss) ∙ sym (append_assoc (run_diags r) (all_diags rs) (all_diags ss))

pub one_more : (told : List Diag) (d : Diag) (n : ℕ) → told ++ d ∷ replicate (n + 1) d ≡ (told ++ d ∷ replicate n d) ++ d ∷ []
one_more told d n =
    let e : n + 1 ≡ suc n = omega arith in
    ap (λ (m : ℕ). told ++ d ∷ replicate m d) e
    ∙ ap (λ ds. told ++ d ∷ ds) (sym (replicate_last n d))
    ∙ sym (append_assoc told (d ∷ replicate n d) (d ∷ []))

pub none_told : (rs : List Run) → all_diags rs ≡ [] → rs ≡ []
none_told [] e = refl
none_told (r ∷ rs) e = cc

-- ---- diagnostics

unfoldable diag_of : List ℕ → ℕ → Code → Grade → Option (List ℕ) → Diag
diag_of f l c g n = record { file = f; line = l; code = c; grade = g; name = n }

pub one_diag : (a b : Diag) → a.file ≡ b.file → a.line ≡ b.line → a.code ≡ b.code → a.grade ≡ b.grade → a.name ≡ b.name → a ≡ b
unfolding diag_of
one_diag a b f l c g n =
    ap (λ x. diag_of x a.line a.code a.grade a.name) f
    ∙ ap (λ x. diag_of b.file x a.code a.grade a.name) l
    ∙ ap (λ x. diag_of b.file b.line x a.grade a.name) c
    ∙ ap (λ x. diag_of b.file b.line b.code x a.name) g
    ∙ ap (λ x. diag_of b.file b.line b.code b.grade x) n

-- ---- errors

self_equal : (r : Ordering) → r ≡ ordering_reverse r → r ≡ Equal
self_equal Less e = absurd cc
self_equal Equal e = refl
self_equal Greater e = absurd cc

own_place : (a : Diag) → diag_order a a ≡ Equal
own_place a = self_equal (diag_order a a) (total-law.antisymm a a)

-- what is in a set is put into it
pub placed_again : (es : List Diag) (d : Diag) → insert_key diag_order (insert_key diag_order es d) d ≡ insert_key diag_order es d
placed_again [] d = ap (λ (r : Ordering). match_ordering r (d ∷ d ∷ []) (d ∷ []) (d ∷ insert_key diag_order [] d)) (own_place d)
placed_again (x ∷ es) d = by (diag_order d x) refl (placed_again es d) where
  put : (r : Ordering) → diag_order d x ≡ r → insert_key diag_order (x ∷ es) d ≡ match_ordering r (d ∷ x ∷ es) (x ∷ es) (x ∷ insert_key diag_order es d)
  put r e = ap (λ (r : Ordering). match_ordering r (d ∷ x ∷ es) (x ∷ es) (x ∷ insert_key diag_order es d)) e

  by : (r : Ordering) → diag_order d x ≡ r → insert_key diag_order (insert_key diag_order es d) d ≡ insert_key diag_order es d
      → insert_key diag_order (insert_key diag_order (x ∷ es) d) d ≡ insert_key diag_order (x ∷ es) d
  by Less e h =
      ap (λ (ds : List Diag). insert_key diag_order ds d) (put Less e)
      ∙ ap (λ (r : Ordering). match_ordering r (d ∷ d ∷ x ∷ es) (d ∷ x ∷ es) (d ∷ insert_key diag_order (x ∷ es) d)) (own_place d)
      ∙ sym (put Less e)
  by Equal e h = ap (λ (ds : List Diag). insert_key diag_order ds d) (put Equal e)
  by Greater e h =
      ap (λ (ds : List Diag). insert_key diag_order ds d) (put Greater e)
      ∙ ap (λ (r : Ordering). match_ordering r (d ∷ x ∷ insert_key diag_order es d) (x ∷ insert_key diag_order es d) (x ∷ insert_key diag_order (insert_key diag_order es d) d)) e
      ∙ ap (λ (ds : List Diag). x ∷ ds) h
      ∙ sym (put Greater e)

error_again : (es : List Diag) (d : Diag) → with_error (with_error es d) d ≡ with_error es d
error_again es d = by (is_check d.grade) where
  by : (c : Bool) → (if c then (if c then es else insert_key diag_order es d) else insert_key diag_order (if c then es else insert_key diag_order es d) d) ≡ (if c then es else insert_key diag_order es d)
  by true = refl
  by false = placed_again es d

pub errors_repeated : (es : List Diag) (d : Diag) (n : ℕ) → with_errors es (d ∷ replicate n d) ≡ with_error es d
errors_repeated es d zero = refl
errors_repeated es d (suc n) = ap (λ (ds : List Diag). with_error ds d) (errors_repeated es d n) ∙ error_again es d

-- of a check, and of an error
pub errors_of_check : (es : List Diag) (d : Diag) (n : ℕ) → d.grade ≡ grade.Check → with_errors es (d ∷ replicate n d) ≡ es
errors_of_check es d n e = errors_repeated es d n ∙ ap (λ (g : Grade). if is_check g then es else insert_key diag_order es d) e

pub errors_of_error : (es : List Diag) (d : Diag) (n : ℕ) → d.grade ≡ grade.Error → with_errors es (d ∷ replicate n d) ≡ insert_key diag_order es d
errors_of_error es d n e = errors_repeated es d n ∙ ap (λ (g : Grade). if is_check g then es else insert_key diag_order es d) e

pub errors_both : (es ds fs : List Diag) → with_errors es (ds ++ fs) ≡ with_errors (with_errors es fs) ds
errors_both es [] fs = refl
errors_both es (d ∷ ds) fs = ap (λ (xs : List Diag). with_error xs d) (errors_both es ds fs)

-- ---- checks

more_or_none : (c : Bool) (d : Diag) (n : ℕ) → (if c then d ∷ replicate n d else []) ++ (if c then d ∷ [] else []) ≡ (if c then d ∷ d ∷ replicate n d else [])
more_or_none true d n = ap (λ (ds : List Diag). d ∷ ds) (replicate_last n d)
more_or_none false d n = refl

pub checks_repeated : (d : Diag) (n : ℕ) → checks_of (d ∷ replicate n d) ≡ (if is_check d.grade then d ∷ replicate n d else [])
checks_repeated d zero = refl
checks_repeated d (suc n) = ap (λ (ds : List Diag). ds ++ if_check d) (checks_repeated d n) ∙ more_or_none (is_check d.grade) d n

pub checks_of_check : (d : Diag) (n : ℕ) → d.grade ≡ grade.Check → checks_of (d ∷ replicate n d) ≡ d ∷ replicate n d
checks_of_check d n e = checks_repeated d n ∙ ap (λ (g : Grade). if is_check g then d ∷ replicate n d else []) e

pub checks_of_error : (told : List Diag) (d : Diag) (n : ℕ) → d.grade ≡ grade.Error → told ++ checks_of (d ∷ replicate n d) ≡ told
checks_of_error told d n e = ap (λ (ds : List Diag). told ++ ds) (checks_repeated d n ∙ ap (λ (g : Grade). if is_check g then d ∷ replicate n d else []) e) ∙ append-nil told

pub checks_both : (ds es : List Diag) → checks_of (ds ++ es) ≡ checks_of es ++ checks_of ds
checks_both [] es = sym (append-nil (checks_of es))
checks_both (d ∷ ds) es = ap (λ (fs : List Diag). fs ++ if_check d) (checks_both ds es) ∙ append_assoc (checks_of es) (checks_of ds) (if_check d)

none_or_more : (c : Bool) (d : Diag) (n : ℕ) → (if c then [] else d ∷ replicate n d) ++ (if c then [] else d ∷ []) ≡ (if c then [] else d ∷ d ∷ replicate n d)
none_or_more true d n = refl
none_or_more false d n = ap (λ (ds : List Diag). d ∷ ds) (replicate_last n d)

pub kept_repeated : (es : List Diag) (d : Diag) (n : ℕ)
    → all_unless_reported es (d ∷ replicate n d) ≡ (if is_among es (graded_as grade.Error d) then [] else graded_as grade.Check d ∷ replicate n (graded_as grade.Check d))
kept_repeated es d zero = refl
kept_repeated es d (suc n) =
    ap (λ (ds : List Diag). ds ++ unless_reported es d) (kept_repeated es d n) ∙ none_or_more (is_among es (graded_as grade.Error d)) (graded_as grade.Check d) n

pub nothing_kept : (told es : List Diag) (d : Diag) (n : ℕ) → unless_reported es d ≡ [] → told ++ all_unless_reported es (d ∷ replicate n d) ≡ told
nothing_kept told es d n e = ap (λ (ds : List Diag). told ++ ds) (none n) ∙ append-nil told where
  none : (n : ℕ) → all_unless_reported es (d ∷ replicate n d) ≡ []
  none zero = e
  none (suc n) = ap (λ (ds : List Diag). ds ++ unless_reported es d) (none n) ∙ e

pub always : {T E : Type 0} (r : Result T E) {P : Type 0} → P → OnOk r P
always (Ok x) p = p
always (Err x) p = tt

pub on_ok : {T E : Type 0} (r : Result T E) {P Q : Type 0} → (P → Q) → OnOk r P → OnOk r Q
on_ok (Ok x) f h = f h
on_ok (Err x) f h = tt

pub kept_both : (es ds fs : List Diag) → all_unless_reported es (ds ++ fs) ≡ all_unless_reported es fs ++ all_unless_reported es ds
kept_both es [] fs = sym (append-nil (all_unless_reported es fs))
kept_both es (d ∷ ds) fs =
    ap (λ (xs : List Diag). xs ++ unless_reported es d) (kept_both es ds fs) ∙ append_assoc (all_unless_reported es fs) (all_unless_reported es ds) (unless_reported es d)
