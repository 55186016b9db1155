-- What lies in a set of places: all, those from one on, and those of runs, which are counted from the least number of 64 bits.
use Rattle.std.specs.Prelude.{map, ◌≡◌, ℕ, ℤ, ◌-◌, pos, ◌-ℤ◌, int_le, Bool, true, false, ◌⊎◌, Option, Some, None, List, [], ◌∷◌, ◌++◌, if◌then◌else◌}
use Rattle.std.specs.BTreeMap.{IsOrdered}
use Rattle.std.specs.Ordering.{nat_cmp}
use Rattle.occ_types.specs.declared.interface.Places.{Places}
use Rattle.occ_types.specs.declared.interface.Places.TheVariants as places
use Rattle.occ_usage_parts.specs.declared.place_set.PlaceSet.{PlaceSet}
use Rattle.occ_usage_parts.specs.inside.Runs.{AreRuns, LiesIn, runs_of}

-- the place with that number
abbrev pub place_at : ℕ → ℤ
place_at n = pos n -ℤ pos 9223372036854775808

-- one from the first on, if there is one
abbrev pub lies_from : Option ℤ → ℤ → Bool
lies_from None x = false
lies_from (Some a) x = int_le a x

-- a place lies in one of the runs
pub record LiesAt (s : PlaceSet) (x : ℤ) : Type 0 where
  pub number : ℕ
  pub place : place_at number ≡ x
  pub lies : LiesIn (runs_of s.runs) number

-- a place lies in the set
abbrev pub Has : PlaceSet → ℤ → Type 0
Has s x = (s.all ≡ true) ⊎ ((lies_from s.from x ≡ true) ⊎ LiesAt s x)

abbrev pub IsSet : PlaceSet → Type 0
IsSet s = IsOrdered nat_cmp s.runs × AreRuns (runs_of s.runs)

-- ---- the same as a list of sets

abbrev pub run_of : ℕ × ℕ → Places
run_of e = places.Run (place_at e.0) (e.1 - e.0)

abbrev pub from_places : Option ℤ → List Places
from_places None = []
from_places (Some a) = places.From a ∷ []

abbrev pub places_of : PlaceSet → List Places
places_of s = (if s.all then places.All ∷ [] else []) ++ (from_places s.from ++ map run_of s.runs.entries)
