-- Elements in front of others that are perhaps not all there.
use Rattle.std.proofs.Common.{◌≡◌, Option, Some, None, List, [], ap, refl, append_assoc}
use Rattle.std.proofs.lemmas.List.{append-nil}
use Rattle.occ_typing_rules.specs.declared.expr.TypedElement.{TypedElement}
use Rattle.occ_typing_statements.specs.StatementTrees.{with_elements}

pub front_of_front : (xs ys zs : Option (List TypedElement)) → with_elements (with_elements xs ys) zs ≡ with_elements xs (with_elements ys zs)
front_of_front None ys zs = refl
front_of_front (Some xs) None zs = refl
front_of_front (Some xs) (Some ys) None = refl
front_of_front (Some xs) (Some ys) (Some zs) = ap (λ (z : List TypedElement). Some z) (append_assoc xs ys zs)

pub front_of_none : (xs : Option (List TypedElement)) → with_elements xs (Some []) ≡ xs
front_of_none None = refl
front_of_none (Some xs) = ap (λ (z : List TypedElement). Some z) (append-nil xs)

pub none_in_front : (xs : Option (List TypedElement)) → with_elements (Some []) xs ≡ xs
none_in_front None = refl
none_in_front (Some xs) = refl

pub ruleset front_rules = (front_of_front, front_of_none, none_in_front)
