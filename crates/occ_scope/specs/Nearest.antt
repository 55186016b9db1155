-- Which of the specifications that were entered and not left a name stands for.
use Rattle.std.specs.Prelude.{ℕ, ◌+◌, ◌<◌, ◌≡◌, ◌≢◌, cond, Bool, List, [], ◌∷◌, Option, Some, None}
use Rattle.std.specs.List.{slice_get}
use Rattle.std.specs.Ordering.{nat_cmp, eq_by_cmp}
use Rattle.std.specs.Cmp.Lexicographic.{slice_cmp}

abbrev pub is_same_name : List ℕ → List ℕ → Bool
is_same_name a b = eq_by_cmp (slice_cmp nat_cmp) a b

-- the later, or the earlier where there is none
abbrev pub later_or : Option ℕ → Option ℕ → Option ℕ
later_or (Some later) earlier = Some later
later_or None earlier = earlier

-- the last place of a name in a list, whose first place is k
abbrev pub last_place_from : ℕ → List (List ℕ) → List ℕ → Option ℕ
last_place_from k [] name = None
last_place_from k (x ∷ xs) name = later_or (last_place_from (k + 1) xs name) (cond (is_same_name x name) (Some k) None)

-- the nearest of these names, the last entered at the end: the place of the last that is equal
abbrev pub nearest : List (List ℕ) → List ℕ → Option ℕ
nearest entered name = last_place_from 0 entered name

-- the name stands at this place, and at no later one
pub record IsNearest (entered : List (List ℕ)) (name : List ℕ) (place : ℕ) : Type 0 where
  pub here : slice_get entered place ≡ Some name
  pub last : (later : ℕ) → place < later → slice_get entered later ≢ Some name
