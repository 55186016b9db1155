-- What is reported where a name is looked up: it has to be in scope, and to stand for what the place needs. Of a name whose
-- own line has a fault nothing is reported.
use Rattle.std.specs.Prelude.{ℕ, List, [], ◌∷◌, Option, Some, None}
use Rattle.occ_base.specs.declared.code.Code.TheVariants as code
use Rattle.occ_base.specs.declared.fault.Fault.{Fault}
use Rattle.occ_types.specs.declared.types.OccType.{OccType}
use Rattle.occ_scope.specs.declared.lookup.Carried.{Carried}
use Rattle.occ_scope.specs.declared.lookup.Carried.TheVariants as carried
use Rattle.occ_scope.specs.declared.meaning.Meaning.{Meaning}
use Rattle.occ_scope.specs.declared.meaning.Meaning.TheVariants as m
use Rattle.occ_scope.specs.declared.meaning.Whole.{Whole}

-- the faults of a place, and what the name stands for there, if nothing is wrong with it
pub record Found (X : Type 0) : Type 0 where
  pub faults : List Fault
  pub found : Option X

abbrev pub good : {X : Type 0} → X → Found X
good x = record { faults = []; found = Some x }

-- of a name that does not stand for what the place needs
abbrev pub faults_of : List ℕ → Option Meaning → List Fault
faults_of name None = (record { code = code.N1; name = Some name }) ∷ []
faults_of name (Some m.Faulty) = []
faults_of name (Some (m.Type None)) = []
faults_of name (Some (m.Type (Some of))) = (record { code = code.N2; name = Some name }) ∷ []
faults_of name (Some (m.Protocol p)) = (record { code = code.N2; name = Some name }) ∷ []
faults_of name (Some (m.Procedure formals)) = (record { code = code.N2; name = Some name }) ∷ []
faults_of name (Some (m.Function formals results)) = (record { code = code.N2; name = Some name }) ∷ []
faults_of name (Some (m.Element whole)) = (record { code = code.N2; name = Some name }) ∷ []

abbrev pub nothing : {X : Type 0} → List ℕ → Option Meaning → Found X
nothing name meaning = record { faults = faults_of name meaning; found = None }

-- where an element is needed
abbrev pub element : List ℕ → Option Meaning → Found Whole
element name (Some (m.Element whole)) = good whole
element name meaning = nothing name meaning

-- where a data type is needed
abbrev pub data_type : List ℕ → Option Meaning → Found OccType
data_type name (Some (m.Type (Some of))) = good of
data_type name meaning = nothing name meaning

-- after CHAN OF, where a protocol or a data type is needed
abbrev pub carries : List ℕ → Option Meaning → Found Carried
carries name (Some (m.Type (Some of))) = good (carried.Values of)
carries name (Some (m.Protocol p)) = good (carried.Protocol p)
carries name meaning = nothing name meaning
