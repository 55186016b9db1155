-- Of some specifications it is remembered that they are of the type of one before them.
use Rattle.std.specs.Prelude.{ℕ, ◌≡◌, ◌≤◌, Some, List, length}
use Rattle.std.specs.List.{slice_get}
use Rattle.occ_scope.specs.Elements.{type_at}
use Rattle.occ_scope.specs.declared.meaning.Meaning.{Meaning}
use Rattle.occ_scope.specs.declared.meanings.Meanings.TheInside.{Inside}

-- each that is noted stands no later, and is of the same type
abbrev pub AreAlike : List Meaning → List ℕ → Type 0
AreAlike meanings alike = (n other : ℕ) → slice_get alike n ≡ Some other → (other ≤ n) × (type_at meanings other ≡ type_at meanings n)

pub record IsAlike (a : Inside) : Type 0 where
  pub within : length a.alike ≤ length a.meanings
  pub same : AreAlike a.meanings a.alike
