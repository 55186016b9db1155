-- Lists in front of others that are perhaps not there.
use Rattle.std.proofs.Common.{◌≡◌, Option, Some, None, List, [], ap, refl, append_assoc}
use Rattle.std.proofs.lemmas.List.{append-nil}
use Rattle.occ_base.specs.Lists.{joined}

pub front_of_front : {X : Type 0} (xs ys zs : Option (List X)) → joined (joined xs ys) zs ≡ joined xs (joined ys zs)
front_of_front None ys zs = refl
front_of_front (Some xs) None zs = refl
front_of_front (Some xs) (Some ys) None = refl
front_of_front {X} (Some xs) (Some ys) (Some zs) = ap (λ (z : List X). Some z) (append_assoc xs ys zs)

pub front_of_none : {X : Type 0} (xs : Option (List X)) → joined xs (Some []) ≡ xs
front_of_none None = refl
front_of_none {X} (Some xs) = ap (λ (z : List X). Some z) (append-nil xs)

pub none_in_front : {X : Type 0} (xs : Option (List X)) → joined (Some []) xs ≡ xs
none_in_front None = refl
none_in_front (Some xs) = refl

pub ruleset front_rules = (front_of_front, front_of_none, none_in_front)
