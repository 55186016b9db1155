-- How the names in scope are held: each with what it hides, and the nearest of each name.
use Rattle.std.specs.Prelude.{ℕ, ◌≡◌, List, [], ◌∷◌, ◌++◌, Option, Some, None, cond}
use Rattle.std.specs.List.{slice_get}
use Rattle.occ_scope.specs.declared.mapped.Entry.{Entry}
use Rattle.occ_scope.specs.declared.mapped.Mapped.TheInside.{Inside}
use Rattle.occ_scope.specs.declared.places.Places.{Places}
use Rattle.occ_scope.specs.Nearest.{nearest, is_same_name}
use Rattle.occ_scope.specs.inside.Places.{place_held}

abbrev pub names_of : List Entry → List (List ℕ)
names_of [] = []
names_of (e ∷ es) = e.name ∷ names_of es

-- each entry reports the nearest of its name before it
abbrev pub AreChained : List (List ℕ) → List Entry → Type 0
AreChained before [] = Unit {0}
AreChained before (e ∷ es) = (e.hidden ≡ nearest before e.name) × AreChained (before ++ e.name ∷ []) es

-- the place, if the name there is this one
abbrev pub if_same : List ℕ → ℕ → Option (List ℕ) → Option ℕ
if_same name place None = None
if_same name place (Some other) = cond (is_same_name other name) (Some place) None

-- the place that is held of a name, if that stands there
abbrev pub standing : List (List ℕ) → List ℕ → Option ℕ → Option ℕ
standing names name None = None
standing names name (Some place) = if_same name place (slice_get names place)

abbrev pub AreNearest : List Entry → Places → Type 0
AreNearest es newest = (name : List ℕ) → standing (names_of es) name (place_held newest name) ≡ nearest (names_of es) name

pub record IsKept (a : Inside) : Type 0 where
  pub chained : AreChained [] a.entries
  pub newest : AreNearest a.entries a.newest

abbrev pub entered : Inside → List (List ℕ)
entered a = names_of a.entries
