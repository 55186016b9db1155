-- Formals: what they are in the body, and to a call.
use Rattle.std.specs.Prelude.{ℕ, Bool, true, false, ◌&&◌, Option, Some, None, List, [], ◌∷◌, ◌++◌}
use Rattle.occ_types.specs.declared.interface.Passing.{Passing}
use Rattle.occ_types.specs.declared.interface.Passing.TheVariants as passing
use Rattle.occ_types.specs.declared.types.OccType.{OccType}
use Rattle.occ_scope.specs.declared.meaning.Access.{Access}
use Rattle.occ_scope.specs.declared.meaning.Access.TheVariants as access
use Rattle.occ_scope.specs.declared.meaning.ScopeEntry.{ScopeEntry}
use Rattle.occ_scope.specs.declared.meaning.Meaning.{Meaning}
use Rattle.occ_scope.specs.declared.meaning.Meaning.TheVariants as m
use Rattle.occ_types.specs.declared.interface.Formal.{Formal}
use Rattle.occ_typing_specifications.specs.Knowing.{is_known}
use Rattle.occ_typing_specifications.specs.declared.formal.HeadFormal.{HeadFormal}

-- those of one group
abbrev pub each_of : Option OccType → Passing → List (List ℕ) → List HeadFormal
each_of of by [] = []
each_of of by (name ∷ names) = (record { name = name; of = of; passing = by }) ∷ each_of of by names

abbrev pub all_known : List HeadFormal → Bool
all_known [] = true
all_known (x ∷ xs) = is_known x.of && all_known xs

-- nothing is written through a value
abbrev pub access_of : Passing → Access
access_of passing.Value = access.Formal
access_of passing.Reference = access.Variable

-- a formal of this type, if it is known
abbrev pub as_element : Option OccType → Passing → List ℕ → Meaning
as_element None by name = m.Faulty
as_element (Some of) by name = m.Element (record { of = of; access = access_of by; value = None; root = name })

-- in a body: all formals of a head with a fault are faulty
abbrev pub entry : Bool → HeadFormal → ScopeEntry
entry true x = record { name = x.name; meaning = as_element x.of x.passing x.name }
entry false x = record { name = x.name; meaning = m.Faulty }

abbrev pub entries : Bool → List HeadFormal → List ScopeEntry
entries known [] = []
entries known (x ∷ xs) = entry known x ∷ entries known xs

-- to a call, if its type is known
abbrev pub called_formal : Option OccType → Passing → List Formal
called_formal None by = []
called_formal (Some of) by = (record { of = of; passing = by }) ∷ []

abbrev pub called_formals : List HeadFormal → List Formal
called_formals [] = []
called_formals (x ∷ xs) = called_formal x.of x.passing ++ called_formals xs
