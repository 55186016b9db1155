-- Parts of one root that are kept to be asked for, as lists of selectors.
use Rattle.std.specs.Prelude.{◌≡◌, ℤ, Bool, not, ◌||◌, List, [], ◌∷◌, ◌++◌}
use Rattle.std.specs.List.{list_any}
use Rattle.occ_types.specs.declared.interface.Interval.{Interval}
use Rattle.occ_types.specs.declared.interface.PartSelector.{PartSelector}
use Rattle.occ_types.specs.declared.interface.PartSelector.TheVariants as s
use Rattle.occ_types.specs.declared.interface.Places.{Places}
use Rattle.occ_usage_parts.specs.Parts.{are_apart}
use Rattle.occ_usage_parts.specs.Places.{holds}

-- one of the kept parts has an element of the part
abbrev pub meets_some : List (List PartSelector) → List PartSelector → Bool
meets_some accumulated q = list_any (λ (p : List PartSelector). not (are_apart p q)) accumulated

-- these places are those that lie in one or the other
abbrev pub IsUnion : Places → Places → Places → Type 0
IsUnion p q r = (x : ℤ) → holds r x ≡ (holds p x || holds q x)

abbrev pub following : List PartSelector → Interval → List PartSelector
following front i = front ++ s.Interval i ∷ []
