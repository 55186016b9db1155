-- A number of each use, by which it is looked for: the same for those that are the same.
use Rattle.std.specs.Prelude.{ℕ, ◌+◌, ◌-◌, ◌*◌, ◌/◌, ◌%◌, ◌^◌, bit_and, length, slice_get, unsigned_abs, unwrap_or, List, [], ◌∷◌}
use Rattle.occ_base.specs.Mixing.{mixed, number_of_bytes}
use Rattle.occ_usage_values.specs.declared.uses.Use.{Use}
use Rattle.occ_types.specs.declared.interface.PartSelector.{PartSelector}
use Rattle.occ_types.specs.declared.interface.PartSelector.TheVariants as s
use Rattle.occ_types.specs.declared.interface.Places.{Places}
use Rattle.occ_types.specs.declared.interface.Places.TheVariants as places

-- that of a run: no number of two in a row, so that places which go up as counts go down stay apart
abbrev pub number_of_run : ℕ → ℕ → ℕ
number_of_run first count = (first + count * 14029467366897019727 % 2 ^ 64) % 2 ^ 64

abbrev pub number_of_places : Places → ℕ
number_of_places places.None = 0
number_of_places places.All = 1
number_of_places (places.From a) = unsigned_abs a
number_of_places (places.Run a n) = number_of_run (unsigned_abs a) n

abbrev pub number_of_selector : PartSelector → ℕ
number_of_selector (s.Field name) = number_of_bytes 0 name
number_of_selector (s.Interval i) = number_of_places i.places

abbrev pub with_selectors : ℕ → List PartSelector → ℕ
with_selectors seed [] = seed
with_selectors seed (x ∷ xs) = with_selectors (mixed seed (number_of_selector x)) xs

abbrev pub number_of : Use → ℕ
number_of u = with_selectors (mixed (mixed 0 u.part.root) (unwrap_or (slice_get u.chain (length u.chain - 1)) 0)) u.part.selectors

-- which of so many lists is that of a use: by the upper bits of its number, which are made of all of it
abbrev pub bucket_of : Use → ℕ → ℕ
bucket_of u count = bit_and (number_of u / 4294967296) (count - 1)
