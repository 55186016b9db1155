-- What is on a board of an editor, and what is told of it.
use Rattle.std.specs.Prelude.{ℕ, List, Option}
use Rattle.std.specs.List.{flat_map}
use Rattle.occ_base.specs.declared.diag.Diag.{Diag}
use Rattle.occ_board.specs.Machine.{State, files_of}
use Rattle.occ_board.specs.declared.report.Row.{Row}
use Rattle.occ_check.specs.Order.{in_order}
use Rattle.occ_files_check.specs.Told.{shown_diags, whole_rows}
use Rattle.occ_forms.specs.Prepared.{Prepared}
use Rattle.occ_project.specs.declared.reads.Read.{Read}
use Rattle.occ_project_units.specs.Project.{file_of}

-- the text of a file on a board, if it is there
abbrev pub source_on : State → List ℕ → Option Prepared
source_on s name = (file_of (files_of s) name).source

-- the diagnostics that these rows show, in order, each once
abbrev pub told_rows : List Row → List Diag
told_rows rows = in_order (flat_map (λ row. shown_diags row.shown) rows)

-- those that the rules give for these files, from nothing
abbrev pub told_of : List Read → List Diag
told_of files = told_rows (whole_rows files)
