-- Imports in order of unit.
use Rattle.std.specs.Prelude.{◌≡◌, ◌<◌, ◌∷◌, [], ℕ, List, get_or, length, map, Option, None, Some}
use Rattle.std.specs.List.{AllByRecursion, HoldsAt}
use Rattle.std.specs.List.Sorted.{IsStrictlySortedBy}
use Rattle.std.specs.declared.cmp.Ordering.TheVariants.{Less}
use Rattle.occ_project.specs.Reads.{name_cmp}
use Rattle.occ_typing_lines.specs.Using.{interface_of}
use Rattle.occ_typing_lines.specs.declared.using.Import.{Import}

-- each stands before those of greater names, so none stands twice
abbrev pub AreSorted : List Import → Type 0
AreSorted imports = IsStrictlySortedBy name_cmp (map (λ import. import.unit) imports)

-- the unit is greater than the one before, if there is one
abbrev pub IsAfter : Option (List ℕ) → List ℕ → Type 0
IsAfter None unit = Unit {0}
IsAfter (Some before) unit = name_cmp before unit ≡ Less

-- they stand in order, after that unit, if there is one
abbrev pub AreSortedAfter : Option (List ℕ) → List Import → Type 0
AreSortedAfter None imports = AreSorted imports
AreSortedAfter (Some before) imports = AllByRecursion (λ name. name_cmp before name ≡ Less) (map (λ import. import.unit) imports) × AreSorted imports

-- there is an import at that place, and it is of the unit
abbrev pub HasUnitAt : List ℕ → List Import → ℕ → Type 0
HasUnitAt unit imports at = at < length imports × HoldsAt (λ i. i.unit ≡ unit) imports at

-- the first import of the unit stands there
abbrev pub IsImportAt : List ℕ → List Import → ℕ → Type 0
IsImportAt unit imports at = at < length imports × ((d : Import) → interface_of unit imports ≡ (get_or imports at d).interface ∷ [])
