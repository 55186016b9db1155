use Rattle.std.proofs.Common.{◌≡◌, ◌++◌, drop}
use Rattle.occ_check.specs.Faults.{line_faults}
use Rattle.occ_check.proofs.faults.find_line_faults.Given as goal

abbrev pub invariant-loop-line : goal.invariant-loop-line
invariant-loop-line l = l.found ++ line_faults l.used (drop l.line-index l.lines) ≡ l.fn.found ++ line_faults l.used l.lines
