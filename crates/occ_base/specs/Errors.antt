-- Diagnostics of the grade error.
use Rattle.std.specs.Prelude.{ℕ, Bool, true, false, List, [], ◌∷◌, Option, None, if◌then◌else◌}
use Rattle.std.specs.List.{list_any}
use Rattle.occ_base.specs.declared.code.Code.{Code}
use Rattle.occ_base.specs.declared.code.Grade.{Grade}
use Rattle.occ_base.specs.declared.code.Grade.TheVariants as grade
use Rattle.occ_base.specs.declared.diag.Diag.{Diag}

-- an error at a line of a file, with the name that it reports
abbrev pub error_at : List ℕ → ℕ → Code → Option (List ℕ) → Diag
error_at file line code name = record { file = file; line = line; code = code; grade = grade.Error; name = name }

-- the error without a name, if the test holds
abbrev pub error_if : Bool → List ℕ → ℕ → Code → List Diag
error_if test file line code = if test then error_at file line code None ∷ [] else []

abbrev pub is_error : Grade → Bool
is_error grade.Error = true
is_error grade.Check = false

-- one of the diagnostics is an error
abbrev pub has_error : List Diag → Bool
has_error = list_any (λ d. is_error d.grade)
