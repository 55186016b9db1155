use Rattle.std.proofs.Common.{◌≡◌, ◌++◌, drop}
use Rattle.occ_protocol.specs.Matching.{each_unmet_any}
use Rattle.occ_protocol.proofs.matching.each_unmet_any.Given as goal

abbrev pub invariant-loop-x : goal.invariant-loop-x
invariant-loop-x l = l.faults ++ each_unmet_any l.root (drop l.x-index l.given) ≡ l.initial.faults ++ each_unmet_any l.root l.given
