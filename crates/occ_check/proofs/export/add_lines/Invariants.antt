use Rattle.std.proofs.Common.{◌≡◌, ◌++◌, drop}
use Rattle.occ_check.specs.Exports.{lines_exports}
use Rattle.occ_check.proofs.export.add_lines.Given as goal

abbrev pub invariant-loop-line : goal.invariant-loop-line
invariant-loop-line l = l.found.items ++ lines_exports l.env l.number (drop l.line-index l.lines) ≡ l.initial.found.items ++ lines_exports l.env 0 l.lines
