use Rattle.std.proofs.Common.{◌≡◌, ◌++◌, drop}
use Rattle.occ_protocol.specs.Matching.{each_unmet}
use Rattle.occ_protocol.proofs.matching.each_unmet.Given as goal

abbrev pub invariant-loop-item : goal.invariant-loop-item
invariant-loop-item l = l.faults ++ each_unmet l.root (drop l.item-index l.items) l.given ≡ l.initial.faults ++ each_unmet l.root l.items l.initial.given
