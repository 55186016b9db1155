-- Used units in order of name.
use Rattle.std.specs.Prelude.{List, map}
use Rattle.std.specs.List.Sorted.{IsStrictlySortedBy}
use Rattle.occ_check.specs.declared.used.UsedUnit.{UsedUnit}
use Rattle.occ_project.specs.Reads.{name_cmp}

-- each stands before those of greater names, so none stands twice
abbrev pub AreSorted : List UsedUnit → Type 0
AreSorted used = IsStrictlySortedBy name_cmp (map (λ one. one.unit) used)
