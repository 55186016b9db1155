-- Trees in front of others that are perhaps not all there.
use Rattle.std.proofs.Common.{◌≡◌, List, [], ◌∷◌, ◌++◌, Option, Some, None, refl, ap, append_assoc}
use Rattle.occ_typing_rules.specs.declared.expr.TypedExpr.{TypedExpr}
use Rattle.occ_typing_rules.specs.Placing.{with_first}

abbrev pub with_front : List TypedExpr → Option (List TypedExpr) → Option (List TypedExpr)
with_front xs None = None
with_front xs (Some ys) = Some (xs ++ ys)

pub front_of_first : (xs : List TypedExpr) (x : TypedExpr) (ys : Option (List TypedExpr)) → with_front (xs ++ x ∷ []) ys ≡ with_front xs (with_first (Some x) ys)
front_of_first xs x None = refl
front_of_first xs x (Some ys) = ap (λ (zs : List TypedExpr). Some zs) (append_assoc xs (x ∷ []) ys)

pub front_of_nothing : (ys : Option (List TypedExpr)) → with_front [] ys ≡ ys
front_of_nothing None = refl
front_of_nothing (Some ys) = refl

pub ruleset front_rules = (front_of_first, front_of_nothing)
