-- Sets of places of an array: which places a set holds, and what two sets have in common.
use Rattle.std.specs.Prelude.{◌≡◌, ℕ, ℤ, pos, negsuc, ◌+ℤ◌, ◌-ℤ◌, int_le, unsigned_abs, Bool, true, false, ◌&&◌, Option, Some, None, if◌then◌else◌}
use Rattle.std.specs.Int.{int_max, int_min}
use Rattle.occ_types.specs.declared.interface.Places.{Places}
use Rattle.occ_types.specs.declared.interface.Places.TheVariants as places

-- a place lies in a set
abbrev pub holds : Places → ℤ → Bool
holds places.None x = false
holds places.All x = true
holds (places.From a) x = int_le a x
holds (places.Run a n) x = int_le a x && int_le x (a +ℤ pos n)

-- some place lies in both
abbrev pub Meet : Places → Places → Type 0
Meet p q = (x : ℤ) × (holds p x ≡ true) × (holds q x ≡ true)

-- ---- the same, and what goes with it, by computation

-- the places from a to b
abbrev pub run_to : ℤ → ℤ → Places
run_to a b = if int_le a b then places.Run a (unsigned_abs (b -ℤ a)) else places.None

-- the places that lie in both
abbrev pub common : Places → Places → Places
common places.None q = places.None
common places.All q = q
common (places.From a) places.None = places.None
common (places.From a) places.All = places.From a
common (places.From a) (places.From b) = places.From (int_max a b)
common (places.From a) (places.Run b m) = run_to (int_max a b) (b +ℤ pos m)
common (places.Run a n) places.None = places.None
common (places.Run a n) places.All = places.Run a n
common (places.Run a n) (places.From b) = run_to (int_max a b) (a +ℤ pos n)
common (places.Run a n) (places.Run b m) = run_to (int_max a b) (int_min (a +ℤ pos n) (b +ℤ pos m))

abbrev pub is_none : Places → Bool
is_none places.None = true
is_none places.All = false
is_none (places.From a) = false
is_none (places.Run a n) = false

abbrev pub meet : Places → Places → Bool
meet p q = if is_none (common p q) then false else true

-- a number of 64 bits
abbrev pub near : ℤ → Option ℤ
near x = if int_le (negsuc 9223372036854775807) x && int_le x (pos 9223372036854775807) then Some x else None

abbrev pub from_place : Option ℤ → Option Places
from_place None = None
from_place (Some a) = Some (places.From a)

abbrev pub run_from : ℕ → Option ℤ → Option Places
run_from n None = None
run_from n (Some a) = Some (places.Run a n)

-- the places counted from a base, if the first of them is a number of 64 bits
abbrev pub moved : ℤ → Places → Option Places
moved b places.None = Some places.None
moved b places.All = Some places.All
moved b (places.From a) = from_place (near (b +ℤ a))
moved b (places.Run a n) = run_from n (near (b +ℤ a))
