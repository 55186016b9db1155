-- What a name stands for is what its specification gives it to mean.
use Rattle.std.proofs.Common.{◌≡◌, ℕ, List, Option, Some, None, ap}
use Rattle.std.specs.Option.{option_map}
use Rattle.std.specs.List.{slice_get}
use Rattle.occ_scope.specs.Nearest.{nearest}
use Rattle.occ_scope.specs.Visible.{meaning_at, numbered, referent, referent_at, visible}
use Rattle.occ_scope.specs.declared.meaning.Meaning.{Meaning}
use Rattle.occ_scope.specs.declared.meaning.Referent.{Referent}
use Rattle.occ_scope.specs.declared.scope.Scope.{Scope}

meant : (n : ℕ) (m : Option Meaning) (r : Referent) → numbered n m ≡ Some r → m ≡ Some r.meaning
meant n None r h = absurd cc
meant n (Some m) r h = ap (option_map (λ (x : Referent). x.meaning)) h

meant_at : (ms : List Meaning) (n : Option ℕ) (r : Referent) → referent_at ms n ≡ Some r → meaning_at ms n ≡ Some r.meaning
meant_at ms None r h = absurd cc
meant_at ms (Some n) r h = meant n (slice_get ms n) r h

pub seen : (s : Scope) (name : List ℕ) (r : Referent) → referent s name ≡ Some r → visible s name ≡ Some r.meaning
seen s name r h = meant_at s.meanings (nearest s.names name) r h
