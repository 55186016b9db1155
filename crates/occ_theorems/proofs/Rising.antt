-- Items put at their places stand in rising order, each below those after it.
use Rattle.std.proofs.Common.{◌≡◌, ℕ, List, [], ◌∷◌, refl, ap, ◌∙◌}
use Rattle.std.proofs.lemmas.Cmp.{nat_list_cmp_total}
use Rattle.std.specs.BTreeSet.{insert_key}
use Rattle.std.specs.Cmp.{IsTotalOrder}
use Rattle.std.specs.List.{AllByRecursion}
use Rattle.std.specs.List.Sorted.{IsStrictlySortedBy}
use Rattle.std.specs.Ordering.{match_ordering, ordering_reverse}
use Rattle.std.specs.declared.cmp.Ordering.{Ordering}
use Rattle.std.specs.declared.cmp.Ordering.TheVariants.{Less, Equal, Greater}
use Rattle.occ_base.specs.Order.{diag_order, placed}
use Rattle.occ_base.specs.contracts.diag.DiagOrd.TheImpl.Laws.{total-law}
use Rattle.occ_base.specs.declared.diag.Diag.{Diag}
use Rattle.occ_check.specs.Order.{in_order}
use Rattle.occ_project.specs.Reads.{name_cmp}
use Rattle.occ_project.specs.Uses.{names_in_order}

module _ {X : Type 0} (cmp : X → X → Ordering) (total : IsTotalOrder cmp) where
  all_more : (P : X → Type 0) (Q : X → Type 0) (xs : List X) → ((x : X) → P x → Q x) → AllByRecursion P xs → AllByRecursion Q xs
  all_more P Q [] f h = tt
  all_more P Q (x ∷ xs) f h = (f x h.0, all_more P Q xs f h.1)

  all_by : (P : X → Type 0) (k x : X) (xs : List X) (o : Ordering) → P k → P x → AllByRecursion P xs → AllByRecursion P (insert_key cmp xs k)
      → AllByRecursion P (match_ordering o (k ∷ x ∷ xs) (x ∷ xs) (x ∷ insert_key cmp xs k))
  all_by P k x xs Less p q h i = (p, (q, h))
  all_by P k x xs Equal p q h i = (q, h)
  all_by P k x xs Greater p q h i = (q, i)

  all_insert : (P : X → Type 0) (xs : List X) (k : X) → P k → AllByRecursion P xs → AllByRecursion P (insert_key cmp xs k)
  all_insert P [] k p h = (p, tt)
  all_insert P (x ∷ xs) k p h = all_by P k x xs (cmp k x) p h.0 h.1 (all_insert P xs k p h.1)

  rising_by : (k x : X) (xs : List X) (o : Ordering) → cmp k x ≡ o → IsStrictlySortedBy cmp (x ∷ xs) → IsStrictlySortedBy cmp (insert_key cmp xs k)
      → IsStrictlySortedBy cmp (match_ordering o (k ∷ x ∷ xs) (x ∷ xs) (x ∷ insert_key cmp xs k))
  unfolding IsStrictlySortedBy
  rising_by k x xs Less e h i = ((e, all_more _ _ xs (λ y l. total.trans k x y e l) h.0), h)
  rising_by k x xs Equal e h i = h
  rising_by k x xs Greater e h i = (all_insert (λ y. cmp x y ≡ Less) xs k (total.antisymm x k ∙ ap ordering_reverse e) h.0, i)

  pub insert_rising : (xs : List X) (k : X) → IsStrictlySortedBy cmp xs → IsStrictlySortedBy cmp (insert_key cmp xs k)
  unfolding IsStrictlySortedBy
  insert_rising [] k h = (tt, tt)
  insert_rising (x ∷ xs) k h = rising_by k x xs (cmp k x) refl h (insert_rising xs k h.1)

  placed_rising : (xs : List X) → IsStrictlySortedBy cmp (placed cmp xs [])
  unfolding IsStrictlySortedBy
  placed_rising [] = tt
  placed_rising (x ∷ xs) = insert_rising (placed cmp xs []) x (placed_rising xs)

pub diags_rise : (ds : List Diag) → IsStrictlySortedBy diag_order (in_order ds)
diags_rise ds = placed_rising diag_order total-law ds

pub names_rise : (ns : List (List ℕ)) → IsStrictlySortedBy name_cmp (names_in_order ns)
names_rise ns = placed_rising name_cmp nat_list_cmp_total ns
