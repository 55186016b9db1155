-- What has no specification stands for nothing.
use Rattle.std.proofs.Common.{◌≡◌, ℕ, List, Option, Some, None, refl, slice_get}
use Rattle.occ_scope.specs.Nearest.{nearest}
use Rattle.occ_scope.specs.Visible.{meaning_at, numbered, referent, referent_at, visible}
use Rattle.occ_scope.specs.declared.meaning.Meaning.{Meaning}
use Rattle.occ_scope.specs.declared.scope.Scope.{Scope}

not_meant : (n : ℕ) (m : Option Meaning) → numbered n m ≡ None → m ≡ None
not_meant n None h = refl
not_meant n (Some m) h = absurd cc

not_meant_at : (ms : List Meaning) (n : Option ℕ) → referent_at ms n ≡ None → meaning_at ms n ≡ None
not_meant_at ms None h = refl
not_meant_at ms (Some n) h = not_meant n (slice_get ms n) h

pub unseen : (s : Scope) (name : List ℕ) → referent s name ≡ None → visible s name ≡ None
unseen s name h = not_meant_at s.meanings (nearest s.names name) h
