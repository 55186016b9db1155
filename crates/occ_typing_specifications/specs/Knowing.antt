-- Which types of a head are known. A type is not known where something is wrong with it, or where it names something
-- faulty, of which nothing is reported.
use Rattle.std.specs.Prelude.{Bool, true, false, ◌&&◌, Option, Some, None, List, [], ◌∷◌, ◌++◌}
use Rattle.occ_types.specs.declared.types.OccType.{OccType}
use Rattle.occ_base.specs.declared.fault.Fault.{Fault}

abbrev pub is_known : Option OccType → Bool
is_known None = false
is_known (Some of) = true

abbrev pub all_found : List (Option OccType) → Bool
all_found [] = true
all_found (x ∷ xs) = is_known x && all_found xs

abbrev pub known_type : Option OccType → List OccType
known_type None = []
known_type (Some of) = of ∷ []

abbrev pub known_types : List (Option OccType) → List OccType
known_types [] = []
known_types (x ∷ xs) = known_type x ++ known_types xs

-- nothing is known of a head that reported something
abbrev pub unless_reported : List Fault → Bool → Bool
unless_reported [] known = known
unless_reported (fault ∷ faults) known = false
