-- Parts with one front.
use Rattle.std.specs.Prelude.{map, Bool, true, false, ◌&&◌, Option, Some, None, List, [], ◌∷◌, ◌++◌, if◌then◌else◌}
use Rattle.std.specs.List.{list_any}
use Rattle.occ_types.specs.declared.interface.Interval.{Interval}
use Rattle.occ_types.specs.declared.interface.PartSelector.{PartSelector}
use Rattle.occ_types.specs.declared.interface.PartSelector.TheVariants as s
use Rattle.occ_types.specs.declared.interface.Places.{Places}
use Rattle.occ_types.specs.declared.interface.Places.TheVariants as places
use Rattle.occ_usage_parts.specs.Keeping.{following}
use Rattle.occ_usage_parts.specs.Parts.{is_sure}
use Rattle.occ_usage_parts.specs.Places.{meet}
use Rattle.occ_usage_parts.specs.Selecting.{unsure}
use Rattle.occ_usage_parts.specs.declared.place_set.PlaceSet.{PlaceSet}
use Rattle.occ_usage_parts.specs.inside.PlaceSets.{places_of}

-- a front, and the parts that begin with it
abbrev pub APath : Type 0
APath = List PartSelector × List (List PartSelector)

-- a front that is a part, or that an interval follows
abbrev pub ended : List PartSelector → Option Interval → List PartSelector
ended front None = front
ended front (Some i) = following front i

abbrev pub all_ended : List PartSelector → List Places → List (List PartSelector)
all_ended front ps = map (λ (p : Places). following front (unsure p)) ps

abbrev pub parts_of : List PartSelector → Bool → PlaceSet → List (List PartSelector)
parts_of front is_whole set = (if is_whole then front ∷ [] else []) ++ all_ended front (places_of set)

-- the parts of all paths
abbrev pub parts_in : List APath → List (List PartSelector)
parts_in [] = []
parts_in (p ∷ more) = p.1 ++ parts_in more

-- the places that a selector asks for, or all where a part ends
abbrev pub asked : Option PartSelector → Option Places
asked (Some (s.Interval i)) = Some i.places
asked (Some (s.Field name)) = None
asked None = Some places.All

abbrev pub meet_asked : List Places → Option Places → Bool
meet_asked ps None = false
meet_asked ps (Some q) = list_any (λ (p : Places). meet p q) ps

-- ---- one interval after a front, and the selector of a part there

-- it has a place in common with what is asked for
abbrev pub asks : Interval → Option Places → Bool
asks i None = false
asks i (Some q) = meet i.places q

abbrev pub sure_beside : Interval → Option PartSelector → Bool
sure_beside i None = true
sure_beside i (Some y) = is_sure (s.Interval i) && is_sure y
