-- What is told of rounds: diagnostics in their order, each once.
use Rattle.std.proofs.Common.{◌≡◌, ◌∙◌, ◌++◌, ℕ, zero, suc, List, [], ◌∷◌, replicate, refl, ap, sym}
use Rattle.std.specs.BTreeSet.{insert_key}
use Rattle.std.specs.Ordering.{match_ordering, ordering_reverse}
use Rattle.std.specs.declared.cmp.Ordering.{Ordering}
use Rattle.std.specs.declared.cmp.Ordering.TheVariants.{Less, Equal, Greater}
use Rattle.occ_alias.proofs.Repeating.{placed_again}
use Rattle.occ_alias.specs.Repeated.{run_diags}
use Rattle.occ_alias.specs.declared.reported.Run.{Run}
use Rattle.occ_base.specs.Order.{diag_order, placed}
use Rattle.occ_base.specs.contracts.diag.DiagOrd.TheImpl.Laws.{total-law}
use Rattle.occ_base.specs.declared.diag.Diag.{Diag}

-- ---- several, one after the other

pub placed_both : (front last there : List Diag) → placed diag_order (front ++ last) there ≡ placed diag_order front (placed diag_order last there)
placed_both [] last there = refl
placed_both (d ∷ front) last there = ap (λ (ds : List Diag). insert_key diag_order ds d) (placed_both front last there)

placed_repeated : (n : ℕ) (d : Diag) (there : List Diag) → placed diag_order (d ∷ replicate n d) there ≡ insert_key diag_order there d
placed_repeated zero d there = refl
placed_repeated (suc n) d there = ap (λ (ds : List Diag). insert_key diag_order ds d) (placed_repeated n d there) ∙ placed_again there d

pub placed_run : (front there : List Diag) (r : Run) → placed diag_order (front ++ run_diags r) there ≡ placed diag_order front (insert_key diag_order there r.diag)
placed_run front there r = placed_both front (run_diags r) there ∙ ap (placed diag_order front) (placed_repeated r.more r.diag there)

-- ---- what is there already

-- it stands at its place
abbrev IsThere : List Diag → Diag → Type 0
IsThere there d = insert_key diag_order there d ≡ there

turned : (d e : Diag) → diag_order e d ≡ Less → diag_order d e ≡ Greater
turned d e h = total-law.antisymm d e ∙ ap ordering_reverse h

back : (d x : Diag) → diag_order d x ≡ Greater → diag_order x d ≡ Less
back d x h = total-law.antisymm x d ∙ ap ordering_reverse h

first_kept : (x d : Diag) (xs ys : List Diag) → x ∷ xs ≡ x ∷ ys → xs ≡ ys
first_kept x d xs ys h = cc

longer : (d x : Diag) (xs : List Diag) → d ∷ x ∷ xs ≡ x ∷ xs → ⊥
longer d x [] h = cc
longer d x (y ∷ xs) h = longer x y xs (let e : x ∷ y ∷ xs ≡ y ∷ xs = cc in e)

module _ (d e x : Diag) (xs : List Diag) where
  put : (k : Diag) (ys : List Diag) (r : Ordering) → diag_order k x ≡ r → insert_key diag_order (x ∷ ys) k ≡ match_ordering r (k ∷ x ∷ ys) (x ∷ ys) (x ∷ insert_key diag_order ys k)
  put k ys r h = ap (λ (o : Ordering). match_ordering o (k ∷ x ∷ ys) (x ∷ ys) (x ∷ insert_key diag_order ys k)) h

  -- e stands before all of them
  before : IsThere (x ∷ xs) d → diag_order d e ≡ Greater → IsThere (e ∷ x ∷ xs) d
  before h g = ap (λ (o : Ordering). match_ordering o (d ∷ e ∷ x ∷ xs) (e ∷ x ∷ xs) (e ∷ insert_key diag_order (x ∷ xs) d)) g ∙ ap (λ (ds : List Diag). e ∷ ds) h

  stays_by : (p q : Ordering) → diag_order d x ≡ p → diag_order e x ≡ q → IsThere (x ∷ xs) d → (IsThere xs d → IsThere (insert_key diag_order xs e) d)
      → IsThere (match_ordering q (e ∷ x ∷ xs) (x ∷ xs) (x ∷ insert_key diag_order xs e)) d
  stays_by Less q h k there rest = absurd (longer d x xs (sym (put d xs Less h) ∙ there))
  stays_by Equal Less h k there rest = before there (turned d e (total-law.antisymm e d ∙ ap ordering_reverse (total-law.congr d x e h) ∙ sym (total-law.antisymm e x) ∙ k))
  stays_by Equal Equal h k there rest = there
  stays_by Equal Greater h k there rest = put d (insert_key diag_order xs e) Equal h
  stays_by Greater Less h k there rest = before there (turned d e (total-law.trans e x d k (back d x h)))
  stays_by Greater Equal h k there rest = there
  stays_by Greater Greater h k there rest =
      put d (insert_key diag_order xs e) Greater h
      ∙ ap (λ (ds : List Diag). x ∷ ds) (rest (first_kept x d (insert_key diag_order xs d) xs (sym (put d xs Greater h) ∙ there)))

-- it stays there
stays : (there : List Diag) (d e : Diag) → IsThere there d → IsThere (insert_key diag_order there e) d
stays [] d e h = absurd cc
stays (x ∷ xs) d e h = stays_by d e x xs (diag_order d x) (diag_order e x) refl refl h (stays xs d e)

abbrev AreThere : List Diag → List Diag → Type 0
AreThere there [] = Unit {0}
AreThere there (d ∷ ds) = IsThere there d × AreThere there ds

all_stay : (there ds : List Diag) (e : Diag) → AreThere there ds → AreThere (insert_key diag_order there e) ds
all_stay there [] e h = tt
all_stay there (d ∷ ds) e h = (stays there d e h.0, all_stay there ds e h.1)

all_placed : (ds there : List Diag) → AreThere (placed diag_order ds there) ds
all_placed [] there = tt
all_placed (d ∷ ds) there = (placed_again (placed diag_order ds there) d, all_stay (placed diag_order ds there) ds d (all_placed ds there))

none_new : (ds there : List Diag) → AreThere there ds → placed diag_order ds there ≡ there
none_new [] there h = refl
none_new (d ∷ ds) there h = ap (λ (es : List Diag). insert_key diag_order es d) (none_new ds there h.1) ∙ h.0

-- what is told again changes nothing
pub told_again : (ds there : List Diag) → placed diag_order ds (placed diag_order ds there) ≡ placed diag_order ds there
told_again ds there = none_new ds (placed diag_order ds there) (all_placed ds there)
