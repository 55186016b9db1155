-- The diagnostics that are reported of a line.
use Rattle.std.specs.Prelude.{List, map}
use Rattle.occ_base.specs.Errors.{error_at}
use Rattle.occ_base.specs.declared.diag.Diag.{Diag}
use Rattle.occ_base.specs.declared.fault.Fault.{Fault}
use Rattle.occ_project.specs.declared.expanded.ExpandedLine.{ExpandedLine}

abbrev pub diag_of : ExpandedLine → Fault → Diag
diag_of l fault = error_at l.file l.line fault.code fault.name

-- each at the line
abbrev pub placed : ExpandedLine → List Fault → List Diag
placed l = map (diag_of l)
