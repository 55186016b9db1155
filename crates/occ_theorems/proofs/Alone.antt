-- Two diagnostics at one place of the order are one. So none is lost where they are put in order, and grades are told apart.
use Rattle.std.proofs.Common.{◌≡◌, ◌∙◌, ◌⊎◌, ◌++◌, Bool, true, false, List, [], ◌∷◌, inl, inr, refl, ap, sym, subst}
use Rattle.std.specs.Prelude.{◌↔◌, ◌||◌, if◌then◌else◌}
use Rattle.std.specs.BTreeSet.{insert_key}
use Rattle.std.specs.List.{Contains}
use Rattle.std.specs.Cmp.{Equal-is}
use Rattle.std.specs.Ordering.{is_eq, ordering_reverse}
use Rattle.std.specs.declared.cmp.Ordering.{Ordering}
use Rattle.std.specs.declared.cmp.Ordering.TheVariants.{Less, Equal, Greater}
use Rattle.occ_alias.specs.Grades.{all_unless_reported, checks_of, graded_as, graver, if_check, is_among, is_check, unless_reported, with_errors}
use Rattle.occ_base.specs.Order.{diag_order}
use Rattle.occ_base.specs.contracts.diag.DiagOrd.TheImpl.Laws.{total-law}
use Rattle.occ_base.specs.declared.code.Grade.{Grade}
use Rattle.occ_base.specs.declared.code.Grade.TheVariants as grade
use Rattle.occ_base.specs.declared.diag.Diag.{Diag}
use Rattle.occ_check.specs.Order.{in_order}
use Rattle.occ_theorems.specs.Orders.{by_parts}
use Rattle.occ_usage.proofs.Exact.{same_diags}
use Rattle.occ_theorems.proofs.Members.{Among, from_contains, from_insert, into_contains, new_insert, old_insert, placed_from, placed_into}

self_equal : (r : Ordering) → r ≡ ordering_reverse r → r ≡ Equal
self_equal Less e = absurd cc
self_equal Equal e = refl
self_equal Greater e = absurd cc

own_place : (a : Diag) → diag_order a a ≡ Equal
own_place a = self_equal (diag_order a a) (total-law.antisymm a a)

pub parts : (d e : Diag) → diag_order d e ≡ by_parts d e
parts d e = refl

-- ---- in order

pub none_lost : (ds : List Diag) (d : Diag) → Contains (in_order ds) d ↔ Contains ds d
none_lost ds d = (
  λ h. into_contains ds d (placed_from diag_order in_order refl (λ x xs. refl) ds d (from_contains (in_order ds) d h)),
  λ h. into_contains (in_order ds) d (placed_into diag_order in_order (λ x xs. refl) ds d (same_diags d) (from_contains ds d h)),
)

-- ---- errors

error_by : (k d : Diag) (errors : List Diag) (g : Grade) → k.grade ≡ g → Among d (if is_check g then errors else insert_key diag_order errors k) → ((k ≡ d) × (d.grade ≡ grade.Error)) ⊎ Among d errors
error_by k d errors grade.Check e h = inr h
error_by k d errors grade.Error e h = elim (from_insert diag_order errors k d h) [
  | inl i ↦ inl (i, subst (λ (x : Diag). x.grade ≡ grade.Error) i e)
  | inr i ↦ inr i
]

errors_from : (ds : List Diag) (d : Diag) → Among d (with_errors [] ds) → Among d ds × (d.grade ≡ grade.Error)
errors_from [] d h = absurd h
errors_from (k ∷ ds) d h = elim (error_by k d (with_errors [] ds) k.grade refl h) [
  | inl i ↦ (inl i.0, i.1)
  | inr i ↦ let r = errors_from ds d i in (inr r.0, r.1)
]

error_old : (k d : Diag) (errors : List Diag) (g : Grade) → Among d errors → Among d (if is_check g then errors else insert_key diag_order errors k)
error_old k d errors grade.Check h = h
error_old k d errors grade.Error h = old_insert diag_order errors k d h

error_new : (k : Diag) (errors : List Diag) (g : Grade) → g ≡ grade.Error → Among k (if is_check g then errors else insert_key diag_order errors k)
error_new k errors grade.Check e = absurd cc
error_new k errors grade.Error e = new_insert diag_order errors k (same_diags k)

errors_into : (ds : List Diag) (d : Diag) → Among d ds → d.grade ≡ grade.Error → Among d (with_errors [] ds)
errors_into [] d h e = absurd h
errors_into (k ∷ ds) d (inl i) e = subst (λ (x : Diag). Among x (with_errors [] (k ∷ ds))) i (error_new k (with_errors [] ds) k.grade (subst (λ (x : Diag). x.grade ≡ grade.Error) (sym i) e))
errors_into (k ∷ ds) d (inr i) e = error_old k d (with_errors [] ds) k.grade (errors_into ds d i e)

-- ---- checks

split : (d : Diag) (xs ys : List Diag) → Among d (xs ++ ys) → Among d xs ⊎ Among d ys
split d [] ys h = inr h
split d (x ∷ xs) ys (inl e) = inl (inl e)
split d (x ∷ xs) ys (inr h) = elim (split d xs ys h) [
  | inl k ↦ inl (inr k)
  | inr k ↦ inr k
]

front : (d : Diag) (xs ys : List Diag) → Among d xs → Among d (xs ++ ys)
front d [] ys h = absurd h
front d (x ∷ xs) ys (inl e) = inl e
front d (x ∷ xs) ys (inr h) = inr (front d xs ys h)

back : (d : Diag) (xs ys : List Diag) → Among d ys → Among d (xs ++ ys)
back d [] ys h = h
back d (x ∷ xs) ys h = inr (back d xs ys h)

check_from : (k d : Diag) (g : Grade) → k.grade ≡ g → Among d (if is_check g then k ∷ [] else []) → (k ≡ d) × (d.grade ≡ grade.Check)
check_from k d grade.Check e (inl i) = (i, subst (λ (x : Diag). x.grade ≡ grade.Check) i e)
check_from k d grade.Check e (inr i) = absurd i
check_from k d grade.Error e h = absurd h

checks_from : (ds : List Diag) (d : Diag) → Among d (checks_of ds) → Among d ds × (d.grade ≡ grade.Check)
checks_from [] d h = absurd h
checks_from (k ∷ ds) d h = elim (split d (checks_of ds) (if_check k) h) [
  | inl i ↦ let r = checks_from ds d i in (inr r.0, r.1)
  | inr i ↦ let r = check_from k d k.grade refl i in (inl r.0, r.1)
]

check_into : (k : Diag) (g : Grade) → g ≡ grade.Check → Among k (if is_check g then k ∷ [] else [])
check_into k grade.Check e = inl refl
check_into k grade.Error e = absurd cc

checks_into : (ds : List Diag) (d : Diag) → Among d ds → d.grade ≡ grade.Check → Among d (checks_of ds)
checks_into [] d h e = absurd h
checks_into (k ∷ ds) d (inl i) e = back d (checks_of ds) (if_check k) (subst (λ (x : Diag). Among x (if_check k)) i (check_into k k.grade (subst (λ (x : Diag). x.grade ≡ grade.Check) (sym i) e)))
checks_into (k ∷ ds) d (inr i) e = front d (checks_of ds) (if_check k) (checks_into ds d i e)

-- ---- whether one is among others

among_from : (ds : List Diag) (d : Diag) → is_among ds d ≡ true → Among d ds
among_from [] d h = cc
among_from (k ∷ ds) d h = by (is_eq (diag_order d k)) refl h (among_from ds d) where
  by : (b : Bool) → is_eq (diag_order d k) ≡ b → (b || is_among ds d) ≡ true → (is_among ds d ≡ true → Among d ds) → Among d (k ∷ ds)
  by true e h rest = inl (sym (same_diags d k ((Equal-is (diag_order d k)).0 e)))
  by false e h rest = inr (rest h)

among_into : (ds : List Diag) (d : Diag) → Among d ds → is_among ds d ≡ true
among_into [] d h = absurd h
among_into (k ∷ ds) d (inl i) = ap (λ (b : Bool). b || is_among ds d) (ap is_eq (ap (λ (x : Diag). diag_order d x) i ∙ own_place d))
among_into (k ∷ ds) d (inr i) = by (is_eq (diag_order d k)) (among_into ds d i) where
  by : (b : Bool) → is_among ds d ≡ true → (b || is_among ds d) ≡ true
  by true e = refl
  by false e = e

-- ---- both

itself : (c : Diag) → c.grade ≡ grade.Check → c ≡ graded_as grade.Check c
itself c e = ap (λ (g : Grade). graded_as g c) e

unless_by : (b : Bool) (c d : Diag) → c.grade ≡ grade.Check → Among d (if b then [] else graded_as grade.Check c ∷ []) → (c ≡ d) × (b ≡ false)
unless_by true c d e h = absurd h
unless_by false c d e (inl i) = (itself c e ∙ i, refl)
unless_by false c d e (inr i) = absurd i

checks_left : (errors cs : List Diag) (d : Diag) → ((c : Diag) → Among c cs → c.grade ≡ grade.Check) → Among d (all_unless_reported errors cs) → Among d cs × (is_among errors (graded_as grade.Error d) ≡ false)
checks_left errors [] d f h = absurd h
checks_left errors (c ∷ cs) d f h = elim (split d (all_unless_reported errors cs) (unless_reported errors c) h) [
  | inl i ↦ let r = checks_left errors cs d (λ x a. f x (inr a)) i in (inr r.0, r.1)
  | inr i ↦
      let r = unless_by (is_among errors (graded_as grade.Error c)) c d (f c (inl refl)) i in
      (inl r.0, subst (λ (x : Diag). is_among errors (graded_as grade.Error x) ≡ false) r.0 r.1)
]

unless_into : (b : Bool) (c : Diag) → c.grade ≡ grade.Check → b ≡ false → Among c (if b then [] else graded_as grade.Check c ∷ [])
unless_into true c e h = absurd cc
unless_into false c e h = inl (sym (itself c e))

left_into : (errors cs : List Diag) (d : Diag) → Among d cs → d.grade ≡ grade.Check → is_among errors (graded_as grade.Error d) ≡ false → Among d (all_unless_reported errors cs)
left_into errors [] d h e n = absurd h
left_into errors (c ∷ cs) d (inl i) e n =
    back d (all_unless_reported errors cs) (unless_reported errors c)
    (subst (λ (x : Diag). Among d (unless_reported errors x)) (sym i) (unless_into (is_among errors (graded_as grade.Error d)) d e n))
left_into errors (c ∷ cs) d (inr i) e n = front d (all_unless_reported errors cs) (unless_reported errors c) (left_into errors cs d i e n)

two_grades : (d : Diag) → d.grade ≡ grade.Check → d.grade ≡ grade.Error → ⊥
two_grades d c e = let h : grade.Check ≡ grade.Error = sym c ∙ e in cc

check_grades : (ds : List Diag) (c : Diag) → Among c (checks_of ds) → c.grade ≡ grade.Check
check_grades ds c h = (checks_from ds c h).1

no_more : (ds : List Diag) (d : Diag) (b : Bool) → is_among (with_errors [] ds) (graded_as grade.Error d) ≡ b → (Contains ds (graded_as grade.Error d) → ⊥) → b ≡ false
no_more ds d false e h = refl
no_more ds d true e h = absurd (h (into_contains ds (graded_as grade.Error d) (errors_from ds (graded_as grade.Error d) (among_from (with_errors [] ds) (graded_as grade.Error d) e)).0))

pub errors_told : (ds : List Diag) (d : Diag) → d.grade ≡ grade.Error → Contains (graver ds) d ↔ Contains ds d
errors_told ds d e = (
  λ h. elim (split d (all_unless_reported (with_errors [] ds) (checks_of ds)) (with_errors [] ds) (from_contains (graver ds) d h)) [
    | inl i ↦ absurd (two_grades d (check_grades ds d (checks_left (with_errors [] ds) (checks_of ds) d (check_grades ds) i).0) e)
    | inr i ↦ into_contains ds d (errors_from ds d i).0
  ],
  λ h. into_contains (graver ds) d (back d (all_unless_reported (with_errors [] ds) (checks_of ds)) (with_errors [] ds) (errors_into ds d (from_contains ds d h) e)),
)

pub checks_told : (ds : List Diag) (d : Diag) → d.grade ≡ grade.Check → Contains (graver ds) d ↔ (Contains ds d × (Contains ds (graded_as grade.Error d) → ⊥))
checks_told ds d e = (
  λ h. elim (split d (all_unless_reported (with_errors [] ds) (checks_of ds)) (with_errors [] ds) (from_contains (graver ds) d h)) [
    | inl i ↦
        let r = checks_left (with_errors [] ds) (checks_of ds) d (check_grades ds) i in (
          into_contains ds d (checks_from ds d r.0).0,
          λ c. let t : is_among (with_errors [] ds) (graded_as grade.Error d) ≡ true = among_into (with_errors [] ds) (graded_as grade.Error d) (errors_into ds (graded_as grade.Error d) (from_contains ds (graded_as grade.Error d) c) refl) in
              let u : is_among (with_errors [] ds) (graded_as grade.Error d) ≡ false = r.1 in cc,
        )
    | inr i ↦ absurd (two_grades d e (errors_from ds d i).1)
  ],
  λ h. into_contains (graver ds) d (front d (all_unless_reported (with_errors [] ds) (checks_of ds)) (with_errors [] ds)
      (left_into (with_errors [] ds) (checks_of ds) d (checks_into ds d (from_contains ds d h.0) e) e (no_more ds d (is_among (with_errors [] ds) (graded_as grade.Error d)) refl h.1))),
)
