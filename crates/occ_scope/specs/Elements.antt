-- The type of what a name stands for, if that is an element, of the formals of a procedure, and of those of a function and
-- its results. A data type has itself at each place.
use Rattle.std.specs.Prelude.{ℕ, List, [], ◌∷◌, ◌++◌, Option, Some, None}
use Rattle.std.specs.List.{slice_get}
use Rattle.occ_types.specs.declared.interface.Formal.{Formal}
use Rattle.occ_types.specs.declared.types.OccType.{OccType}
use Rattle.occ_scope.specs.declared.meaning.Meaning.{Meaning}
use Rattle.occ_scope.specs.declared.meaning.Meaning.TheVariants as m

-- the type of what is meant, if that is an element
abbrev pub type_of : Option Meaning → Option OccType
type_of None = None
type_of (Some m.Faulty) = None
type_of (Some (m.Type of)) = None
type_of (Some (m.Protocol p)) = None
type_of (Some (m.Procedure formals)) = None
type_of (Some (m.Function formals results)) = None
type_of (Some (m.Element whole)) = Some whole.of

abbrev pub formal_type : Option Formal → Option OccType
formal_type None = None
formal_type (Some formal) = Some formal.of

abbrev pub formal_types : List Formal → List OccType
formal_types [] = []
formal_types (formal ∷ formals) = formal.of ∷ formal_types formals

-- the type of a formal of what is meant, if that is a procedure or a function with so many; the results of a function stand
-- after its formals; a data type is itself at each place
abbrev pub formal_of : Option Meaning → ℕ → Option OccType
formal_of None k = None
formal_of (Some m.Faulty) k = None
formal_of (Some (m.Type of)) k = of
formal_of (Some (m.Protocol p)) k = None
formal_of (Some (m.Procedure formals)) k = formal_type (slice_get formals k)
formal_of (Some (m.Function formals results)) k = slice_get (formal_types formals ++ results) k
formal_of (Some (m.Element whole)) k = None

-- by the numbers of their specifications
abbrev pub type_at : List Meaning → ℕ → Option OccType
type_at meanings n = type_of (slice_get meanings n)

abbrev pub formal_at : List Meaning → ℕ → ℕ → Option OccType
formal_at meanings n k = formal_of (slice_get meanings n) k
