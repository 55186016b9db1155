-- A place for each name: of short names by numbers, of which no two have one.
use Rattle.std.specs.Prelude.{ℕ, ◌≡◌, cond, List, Option, Some, None}
use Rattle.std.specs.BTreeMap.{BTreeMap, get}
use Rattle.std.specs.Cmp.Lexicographic.{slice_cmp}
use Rattle.std.specs.Ordering.{nat_cmp}
use Rattle.occ_base.specs.Numbers.{number_of}
use Rattle.occ_scope.specs.Nearest.{is_same_name}
use Rattle.occ_scope.specs.declared.places.Places.{Places}

abbrev pub held_by : Places → List ℕ → Option ℕ → Option ℕ
held_by p name (Some number) = get nat_cmp p.short number
held_by p name None = get (slice_cmp nat_cmp) p.long name

abbrev pub place_held : Places → List ℕ → Option ℕ
place_held p name = held_by p name (number_of name)

abbrev pub HoldsNone : Places → Type 0
HoldsNone p = (name : List ℕ) → place_held p name ≡ None

abbrev pub AreSame : Places → Places → Type 0
AreSame old new = (name : List ℕ) → place_held new name ≡ place_held old name

-- the place of one name is another, or none, and those of the others are the same
abbrev pub Puts : Places → Places → List ℕ → Option ℕ → Type 0
Puts old new name place = (other : List ℕ) → place_held new other ≡ cond (is_same_name name other) place (place_held old other)

-- where the name has a place again, that is put; else all stays
abbrev pub Restores : Places → Places → List ℕ → Option ℕ → Type 0
Restores old new name None = new ≡ old
Restores old new name (Some place) = Puts old new name (Some place)
