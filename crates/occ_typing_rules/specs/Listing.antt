-- Names that are declared in one list.
use Rattle.std.specs.Prelude.{ℕ, Option, Some, None, List, [], ◌∷◌, ◌++◌}
use Rattle.occ_base.specs.declared.code.Code.TheVariants as code
use Rattle.occ_base.specs.declared.fault.Fault.{Fault}
use Rattle.occ_scope.specs.Nearest.{nearest}

-- a name, and where it stood last in the list before
abbrev pub repetition : List ℕ → Option ℕ → List Fault
repetition name None = []
repetition name (Some place) = (record { code = code.T8; name = Some name }) ∷ []

-- each name that stood before in the list is reported, once for each place
abbrev pub repetitions : List (List ℕ) → List (List ℕ) → List Fault
repetitions before [] = []
repetitions before (name ∷ names) = repetition name (nearest before name) ++ repetitions (before ++ name ∷ []) names
