-- The uses of an export: those of the list, each once, in one order.
use Rattle.std.proofs.Common.{◌≡◌, ℕ, List, [], ◌∷◌, refl, ap, sym, subst, ◌∙◌}
use Rattle.std.specs.Prelude.{◌↔◌}
use Rattle.std.proofs.lemmas.Cmp.{nat_list_cmp_total}
use Rattle.std.proofs.lemmas.Map.Text.{is_eq-slice_cmp}
use Rattle.std.proofs.lemmas.Slice.Eq.{bytes_eq-Decides}
use Rattle.std.specs.BTreeMap.{insert_entry}
use Rattle.std.specs.BTreeSet.{insert_key}
use Rattle.std.specs.Cmp.{IsTotalOrder}
use Rattle.std.specs.Cmp.Lexicographic.{slice_cmp}
use Rattle.std.specs.List.{AllByRecursion, Contains}
use Rattle.std.specs.List.Sorted.{IsStrictlySortedBy}
use Rattle.std.specs.Map.{values_of}
use Rattle.std.specs.Ordering.{is_eq, match_ordering, nat_cmp}
use Rattle.std.specs.declared.cmp.Ordering.{Ordering}
use Rattle.std.specs.declared.cmp.Ordering.TheVariants.{Less, Equal, Greater}
use Rattle.occ_check.specs.Codes.{use_code}
use Rattle.occ_check.specs.FormalUses.{coded, in_order}
use Rattle.occ_types.specs.Interface.{IsSameSet}
use Rattle.occ_types.specs.declared.interface.FormalUse.{FormalUse}
use Rattle.occ_theorems.specs.Exports.{use_order}
use Rattle.occ_theorems.proofs.UseCodes.{same_code}
use Rattle.occ_theorems.proofs.Members.{Among, from_contains, into_contains, one_list, placed_from, placed_into}
use Rattle.occ_theorems.proofs.Rising.{insert_rising}

total : IsTotalOrder use_order
total = record {
  antisymm = λ a b. nat_list_cmp_total.antisymm (use_code a) (use_code b);
  trans = λ a b c. nat_list_cmp_total.trans (use_code a) (use_code b) (use_code c);
  congr = λ a b c. nat_list_cmp_total.congr (use_code a) (use_code b) (use_code c);
}

same_numbers : (m n : List ℕ) → slice_cmp nat_cmp m n ≡ Equal → m ≡ n
same_numbers m n e = (bytes_eq-Decides m n).0 (sym (is_eq-slice_cmp m n) ∙ ap is_eq e)

same_use : (a b : FormalUse) → use_order a b ≡ Equal → a ≡ b
same_use a b e = same_code a b (same_numbers (use_code a) (use_code b) e)

-- each stands behind its own code
IsCoded : List (List ℕ × FormalUse) → Type 0
IsCoded = AllByRecursion (λ e. e.0 ≡ use_code e.1)

by_place : (u : FormalUse) (e : List ℕ × FormalUse) (es : List (List ℕ × FormalUse)) (o : Ordering) → slice_cmp nat_cmp (use_code u) e.0 ≡ o → e.0 ≡ use_code e.1
    → values_of (insert_entry (slice_cmp nat_cmp) es (use_code u) u) ≡ insert_key use_order (values_of es) u
    → values_of (match_ordering o ((use_code u, u) ∷ e ∷ es) ((e.0, u) ∷ es) (e ∷ insert_entry (slice_cmp nat_cmp) es (use_code u) u))
    ≡ match_ordering o (u ∷ e.1 ∷ values_of es) (e.1 ∷ values_of es) (e.1 ∷ insert_key use_order (values_of es) u)
by_place u e es Less o c h = refl
by_place u e es Equal o c h = ap (λ (x : FormalUse). x ∷ values_of es) (same_code u e.1 (same_numbers (use_code u) e.0 o ∙ c))
by_place u e es Greater o c h = ap (λ (xs : List FormalUse). e.1 ∷ xs) h

values_insert : (es : List (List ℕ × FormalUse)) (u : FormalUse) → IsCoded es
    → values_of (insert_entry (slice_cmp nat_cmp) es (use_code u) u) ≡ insert_key use_order (values_of es) u
unfolding IsCoded
values_insert [] u h = refl
values_insert (e ∷ es) u h =
    by_place u e es (slice_cmp nat_cmp (use_code u) e.0) refl h.0 (values_insert es u h.1)
    ∙ ap (λ (c : List ℕ). match_ordering (slice_cmp nat_cmp (use_code u) c) (u ∷ e.1 ∷ values_of es) (e.1 ∷ values_of es) (e.1 ∷ insert_key use_order (values_of es) u)) h.0

coded_by : (u : FormalUse) (e : List ℕ × FormalUse) (es : List (List ℕ × FormalUse)) (o : Ordering) → slice_cmp nat_cmp (use_code u) e.0 ≡ o → e.0 ≡ use_code e.1 → IsCoded es
    → IsCoded (insert_entry (slice_cmp nat_cmp) es (use_code u) u)
    → IsCoded (match_ordering o ((use_code u, u) ∷ e ∷ es) ((e.0, u) ∷ es) (e ∷ insert_entry (slice_cmp nat_cmp) es (use_code u) u))
unfolding IsCoded
coded_by u e es Less o c h i = (refl, (c, h))
coded_by u e es Equal o c h i = (sym (same_numbers (use_code u) e.0 o), h)
coded_by u e es Greater o c h i = (c, i)

coded_insert : (es : List (List ℕ × FormalUse)) (u : FormalUse) → IsCoded es → IsCoded (insert_entry (slice_cmp nat_cmp) es (use_code u) u)
unfolding IsCoded
coded_insert [] u h = (refl, tt)
coded_insert (e ∷ es) u h = coded_by u e es (slice_cmp nat_cmp (use_code u) e.0) refl h.0 h.1 (coded_insert es u h.1)

all_coded : (us : List FormalUse) → IsCoded (coded us [])
unfolding IsCoded
all_coded [] = tt
all_coded (u ∷ us) = coded_insert (coded us []) u (all_coded us)

step : (u : FormalUse) (us : List FormalUse) → in_order (u ∷ us) ≡ insert_key use_order (in_order us) u
step u us = values_insert (coded us []) u (all_coded us)

-- ---- what is in order

pub in_order_rises : (us : List FormalUse) → IsStrictlySortedBy use_order (in_order us)
unfolding IsStrictlySortedBy
in_order_rises [] = tt
in_order_rises (u ∷ us) = subst (IsStrictlySortedBy use_order) (sym (step u us)) (insert_rising use_order total (in_order us) u (in_order_rises us))

from_order : (us : List FormalUse) (u : FormalUse) → Among u (in_order us) → Among u us
from_order = placed_from use_order in_order refl step

into_order : (us : List FormalUse) (u : FormalUse) → Among u us → Among u (in_order us)
into_order us u = placed_into use_order in_order step us u (same_use u)

pub in_order_has : (us : List FormalUse) (u : FormalUse) → Contains (in_order us) u ↔ Contains us u
in_order_has us u = (λ h. into_contains us u (from_order us u (from_contains (in_order us) u h)), λ h. into_contains (in_order us) u (into_order us u (from_contains us u h)))

pub one_order : (us vs : List FormalUse) → IsSameSet us vs → in_order us ≡ in_order vs
one_order us vs h = one_list use_order total (in_order us) (in_order vs) (in_order_rises us) (in_order_rises vs)
    (λ u i. into_order vs u (from_contains vs u (h.there u (into_contains us u (from_order us u i)))))
    (λ u i. into_order us u (from_contains us u (h.back u (into_contains vs u (from_order vs u i)))))

-- put in order once more it stays as it is
pub order_stays : (us : List FormalUse) → in_order (in_order us) ≡ in_order us
order_stays us = one_list use_order total (in_order (in_order us)) (in_order us) (in_order_rises (in_order us)) (in_order_rises us)
    (λ u h. from_order (in_order us) u h) (λ u h. into_order (in_order us) u h)
