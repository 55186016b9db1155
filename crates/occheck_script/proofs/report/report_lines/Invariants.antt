use Rattle.std.proofs.Common.{◌≡◌, ◌++◌, drop}
use Rattle.std.specs.List.{flat_map}
use Rattle.occheck_script.specs.Machine.{unit_text}
use Rattle.occheck_script.proofs.report.report_lines.Given as goal

abbrev pub invariant-loop-row : goal.invariant-loop-row
invariant-loop-row l = l.bytes.items ++ flat_map (λ row. unit_text row.unit row.shown) (drop l.row-index l.rows) ≡ flat_map (λ row. unit_text row.unit row.shown) l.rows
