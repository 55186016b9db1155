-- Of an error and a check that are reported with one code at one line with one name the error alone.
use Rattle.std.specs.Prelude.{Bool, true, false, List, [], ◌∷◌, ◌++◌, if◌then◌else◌}
use Rattle.std.specs.BTreeMap.{is_at}
use Rattle.std.specs.BTreeSet.{insert_key}
use Rattle.std.specs.List.{list_any}
use Rattle.occ_base.specs.Order.{diag_order}
use Rattle.occ_base.specs.declared.code.Grade.{Grade}
use Rattle.occ_base.specs.declared.code.Grade.TheVariants as grade
use Rattle.occ_base.specs.declared.diag.Diag.{Diag}

abbrev pub is_check : Grade → Bool
is_check grade.Check = true
is_check grade.Error = false

abbrev pub graded_as : Grade → Diag → Diag
graded_as g d = record { file = d.file; line = d.line; code = d.code; grade = g; name = d.name }

-- ---- the errors, in order, each once

abbrev pub with_error : List Diag → Diag → List Diag
with_error errors d = if is_check d.grade then errors else insert_key diag_order errors d

-- with those among these
abbrev pub with_errors : List Diag → List Diag → List Diag
with_errors errors [] = errors
with_errors errors (d ∷ ds) = with_error (with_errors errors ds) d

-- ---- the checks, the last first

abbrev pub if_check : Diag → List Diag
if_check d = if is_check d.grade then d ∷ [] else []

abbrev pub checks_of : List Diag → List Diag
checks_of [] = []
checks_of (d ∷ ds) = checks_of ds ++ if_check d

-- ---- the checks that are not reported as errors too, the last first

-- whether it is one of these
abbrev pub is_among : List Diag → Diag → Bool
is_among ds d = list_any (is_at (diag_order d)) ds

abbrev pub unless_reported : List Diag → Diag → List Diag
unless_reported errors d = if is_among errors (graded_as grade.Error d) then [] else graded_as grade.Check d ∷ []

abbrev pub all_unless_reported : List Diag → List Diag → List Diag
all_unless_reported errors [] = []
all_unless_reported errors (d ∷ ds) = all_unless_reported errors ds ++ unless_reported errors d

-- ---- both

abbrev pub graver : List Diag → List Diag
graver ds = all_unless_reported (with_errors [] ds) (checks_of ds) ++ with_errors [] ds
