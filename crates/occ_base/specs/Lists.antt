-- Lists that are there only if each of their parts is.
use Rattle.std.specs.Prelude.{Option, Some, None, List, [], ◌∷◌, ◌++◌}

-- one after the other, if both are there
abbrev pub joined : {X : Type 0} → Option (List X) → Option (List X) → Option (List X)
joined None ys = None
joined (Some xs) None = None
joined (Some xs) (Some ys) = Some (xs ++ ys)

abbrev pub one_part : {X : Type 0} → Option X → Option (List X)
one_part None = None
one_part (Some x) = Some (x ∷ [])
