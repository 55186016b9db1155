-- The first names of those in scope are in a map.
use Rattle.std.specs.Prelude.{ℕ, ◌≡◌, List, length, take}
use Rattle.occ_scope.specs.declared.scopes.Scopes.TheInside.{Inside}

-- the others begin with these
abbrev pub Begins : List (List ℕ) → List (List ℕ) → Type 0
Begins front names = front ≡ take (length front) names

abbrev pub IsBegun : Inside → Type 0
IsBegun a = Begins a.mapped a.names
