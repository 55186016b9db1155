-- Actuals in front of others that are perhaps not all there.
use Rattle.std.proofs.Common.{◌≡◌, Option, Some, None, List, [], ap, refl, append_assoc}
use Rattle.std.proofs.lemmas.List.{append-nil}
use Rattle.occ_typing_rules.specs.declared.expr.TypedActual.{TypedActual}
use Rattle.occ_typing_statements.specs.Actuals.{with_actuals}

pub front_of_front : (xs ys zs : Option (List TypedActual)) → with_actuals (with_actuals xs ys) zs ≡ with_actuals xs (with_actuals ys zs)
front_of_front None ys zs = refl
front_of_front (Some xs) None zs = refl
front_of_front (Some xs) (Some ys) None = refl
front_of_front (Some xs) (Some ys) (Some zs) = ap (λ (z : List TypedActual). Some z) (append_assoc xs ys zs)

pub front_of_none : (xs : Option (List TypedActual)) → with_actuals xs (Some []) ≡ xs
front_of_none None = refl
front_of_none (Some xs) = ap (λ (z : List TypedActual). Some z) (append-nil xs)

pub none_in_front : (xs : Option (List TypedActual)) → with_actuals (Some []) xs ≡ xs
none_in_front None = refl
none_in_front (Some xs) = refl

pub ruleset front_rules = (front_of_front, front_of_none, none_in_front)
