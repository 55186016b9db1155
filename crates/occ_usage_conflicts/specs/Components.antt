-- Components of a line: the uses of each.
use Rattle.std.specs.Prelude.{ℕ, List, [], ◌∷◌, ◌++◌, drop, take}
use Rattle.occ_usage_values.specs.declared.uses.Use.{Use}

-- those of all components, one after the other
abbrev pub joined : List (List Use) → List Use
joined [] = []
joined (us ∷ more) = us ++ joined more

-- components of which the uses stand one after the other, so many in each
abbrev pub parted : List ℕ → List Use → List (List Use)
parted [] us = []
parted (n ∷ ns) us = take n us ∷ parted ns (drop n us)
