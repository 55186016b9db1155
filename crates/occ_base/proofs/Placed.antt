-- Items put at their places, the last first.
use Rattle.std.proofs.Common.{◌≡◌, List, [], ◌∷◌, ◌++◌, refl, ap}
use Rattle.std.specs.BTreeSet.{insert_key}
use Rattle.std.specs.declared.cmp.Ordering.{Ordering}
use Rattle.occ_base.specs.Order.{placed}

pub placed_last : {X : Type 0} (cmp : X → X → Ordering) (front : List X) (last : X) (there : List X) → placed cmp (front ++ last ∷ []) there ≡ placed cmp front (insert_key cmp there last)
placed_last cmp [] last there = refl
placed_last {X} cmp (x ∷ front) last there = ap (λ (xs : List X). insert_key cmp xs x) (placed_last cmp front last there)
