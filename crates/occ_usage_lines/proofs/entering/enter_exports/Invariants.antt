use Rattle.std.proofs.Common.{◌≡◌, ◌++◌, drop, length}
use Rattle.occ_usage_lines.specs.Entering.{export_bounds as reported}
use Rattle.occ_usage_lines.proofs.entering.enter_exports.Given as goal

abbrev pub invariant-loop-export : goal.invariant-loop-export
invariant-loop-export l = l.env ++ reported (length l.env) l.line (drop l.export-index l.exports) ≡ l.initial.env ++ reported (length l.initial.env) l.line l.exports
