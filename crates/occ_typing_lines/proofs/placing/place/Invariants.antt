use Rattle.std.proofs.Common.{◌≡◌, ◌++◌, drop}
use Rattle.occ_typing_lines.specs.Placed.{placed}
use Rattle.occ_typing_lines.proofs.placing.place.Given as goal

abbrev pub invariant-loop-fault : goal.invariant-loop-fault
invariant-loop-fault l = l.found ++ placed l.line (drop l.fault-index l.faults) ≡ l.initial.found ++ placed l.line l.faults
