-- The diagnostics of a unit and its interface, as the rules give them for what its check looks at.
use Rattle.std.specs.Prelude.{List, ◌++◌, Option, None, if◌then◌else◌}
use Rattle.occ_base.specs.Errors.{has_error}
use Rattle.occ_base.specs.declared.diag.Diag.{Diag}
use Rattle.occ_check.specs.Faults.{line_faults}
use Rattle.occ_check.specs.Input.{Input, expansion_in}
use Rattle.occ_check.specs.Language.{following, lines_judged}
use Rattle.occ_check.specs.Order.{in_order}
use Rattle.occ_check.specs.declared.language.Judgement.{Judgement}
use Rattle.occ_types.specs.declared.interface.Interface.{Interface}

-- of its files, its lines and the units that it uses
abbrev pub unit_faults : Input → List Diag
unit_faults i = (expansion_in i).faults ++ line_faults i.used (expansion_in i).lines

-- these alone, if there are any, else what the language says of the lines
abbrev pub judged : Input → Judgement
judged i = following (unit_faults i) (lines_judged (expansion_in i).lines i.used)

-- in order, each once
unfoldable pub diags_of : Input → List Diag
diags_of i = in_order (judged i).faults

-- none of a unit that has an error
unfoldable pub interface_of : Input → Option Interface
interface_of i = if has_error (diags_of i) then None else (judged i).interface
