-- Of some formals of procedures it is remembered that they are of the type of an element.
use Rattle.std.specs.Prelude.{ℕ, ◌≡◌, ◌≤◌, ◌<◌, Some, List, length}
use Rattle.std.specs.List.{slice_get}
use Rattle.occ_scope.specs.Elements.{formal_at, type_at}
use Rattle.occ_scope.specs.declared.meaning.Meaning.{Meaning}
use Rattle.occ_scope.specs.declared.taking.Taken.{Taken}
use Rattle.occ_scope.specs.declared.taking.Taking.TheInside.{Inside}

-- both specifications stand before a place
abbrev pub IsNoted : List Meaning → ℕ → Taken → Type 0
IsNoted meanings bound one = (one.procedure < bound) × (one.actual < bound) × (formal_at meanings one.procedure one.formal ≡ type_at meanings one.actual)

abbrev pub AreNoted : List Meaning → ℕ → List Taken → Type 0
AreNoted meanings bound taken = (n : ℕ) (one : Taken) → slice_get taken n ≡ Some one → IsNoted meanings bound one

pub record IsTaking (a : Inside) : Type 0 where
  pub within : a.bound ≤ length a.meanings
  pub noted : AreNoted a.meanings a.bound a.taken.items
