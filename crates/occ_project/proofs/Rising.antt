-- Names that stand in order.
use Rattle.std.proofs.Common.{◌≡◌, ◌<◌, ◌∙◌, ℕ, suc, arith, get_or, length, List, [], ◌∷◌, refl, ap}
use Rattle.std.specs.BTreeSet.{insert_key}
use Rattle.std.specs.Ordering.{match_ordering}
use Rattle.std.specs.declared.cmp.Ordering.{Ordering}
use Rattle.std.specs.declared.cmp.Ordering.TheVariants.{Less}
use Rattle.occ_project.specs.Reads.{name_cmp}
use Rattle.occ_project.specs.Uses.{names_in_order}

-- names that each stand before the next are in order
pub rising_stay : (names : List (List ℕ)) → ((k : ℕ) → suc k < length names → name_cmp (get_or names k []) (get_or names (suc k) []) ≡ Less) → names_in_order names ≡ names
rising_stay [] h = refl
rising_stay (name ∷ names) h = ap (λ (ns : List (List ℕ)). insert_key name_cmp ns name) (rising_stay names (λ k lt. h (suc k) (omega (arith, lt)))) ∙ first names (λ lt. h 0 (omega (arith, lt))) where
  first : (ns : List (List ℕ)) → (0 < length ns → name_cmp name (get_or ns 0 []) ≡ Less) → insert_key name_cmp ns name ≡ name ∷ ns
  first [] f = refl
  first (n ∷ ns) f = ap (λ (o : Ordering). match_ordering o (name ∷ n ∷ ns) (n ∷ ns) (n ∷ insert_key name_cmp ns name)) (f (omega arith))
