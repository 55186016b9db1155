use Rattle.std.proofs.Common.{◌≡◌, ◌++◌, drop, length}
use Rattle.occ_usage_lines.specs.Entering.{interface_bounds as reported}
use Rattle.occ_usage_lines.proofs.entering.enter_interfaces.Given as goal

abbrev pub invariant-loop-interface : goal.invariant-loop-interface
invariant-loop-interface l = l.env ++ reported (length l.env) l.line (drop l.interface-index l.interfaces) ≡ l.initial.env ++ reported (length l.initial.env) l.line l.interfaces
