-- Parts that are spread over lists by their beginnings.
use Rattle.std.specs.Prelude.{◌≡◌, ◌≢◌, ℕ, Bool, false, Option, Some, None, List, [], ◌∷◌, ◌++◌, slice_get, length}
use Rattle.std.specs.List.{list_any}
use Rattle.occ_usage_parts.specs.Keeping.{meets_some}
use Rattle.occ_types.specs.declared.interface.PartSelector.{PartSelector}
use Rattle.occ_usage_conflicts.specs.inside.Beginning.{list_of}

-- the parts of all lists
abbrev pub all_in : List (List (List PartSelector)) → List (List PartSelector)
all_in [] = []
all_in (ps ∷ more) = ps ++ all_in more

-- a part of one of the lists has an element in common with the part
abbrev pub meets_in : List (List (List PartSelector)) → List PartSelector → Bool
meets_in lists q = list_any (λ (ps : List (List PartSelector)). meets_some ps q) lists

abbrev pub meets_those : Option (List (List PartSelector)) → List PartSelector → Bool
meets_those None q = false
meets_those (Some ps) q = meets_some ps q

abbrev pub meets_at : List (List (List PartSelector)) → ℕ → List PartSelector → Bool
meets_at lists i q = meets_those (slice_get lists i) q

-- what has a list has an element in common with no part of another
abbrev pub IsSpread : List (List (List PartSelector)) → Type 0
IsSpread lists = (i : ℕ) (ps : List (List PartSelector)) (q : List PartSelector) (j : ℕ)
    → slice_get lists i ≡ Some ps → list_of q (length lists) ≡ Some j → j ≢ i → meets_some ps q ≡ false
