-- How parts begin: with a field, with one place, or otherwise. By its beginning a part has one of n lists, or none; parts of
-- different lists are apart.
use Rattle.std.specs.Prelude.{ℕ, zero, suc, unsigned_abs, ◌%◌, Option, Some, None, List, [], ◌∷◌}
use Rattle.occ_types.specs.declared.interface.PartSelector.{PartSelector}
use Rattle.occ_types.specs.declared.interface.PartSelector.TheVariants as s
use Rattle.occ_types.specs.declared.interface.Places.{Places}
use Rattle.occ_types.specs.declared.interface.Places.TheVariants as places
use Rattle.occ_base.specs.Mixing.{number_of_bytes}

-- that of a number, of n lists
abbrev pub list_at : ℕ → ℕ → Option ℕ
list_at x zero = None
list_at x (suc n) = Some (x % suc n)

abbrev pub list_of_places : Places → ℕ → Option ℕ
list_of_places places.None n = None
list_of_places places.All n = None
list_of_places (places.From a) n = None
list_of_places (places.Run x zero) n = list_at (unsigned_abs x) n
list_of_places (places.Run x (suc m)) n = None

-- that of a part whose first selector is a field or one place
abbrev pub list_of : List PartSelector → ℕ → Option ℕ
list_of [] n = None
list_of (s.Field name ∷ xs) n = list_at (number_of_bytes 0 name) n
list_of (s.Interval i ∷ xs) n = list_of_places i.places n
