use Rattle.std.proofs.Common.{◌≡◌, drop}
use Rattle.std.specs.List.{list_any}
use Rattle.occ_protocol.specs.Matching.{has_fault}
use Rattle.occ_protocol.proofs.matching.any_has_fault.Given as goal

abbrev pub invariant-loop-x : goal.invariant-loop-x
invariant-loop-x l = list_any has_fault (drop l.x-index l.given) ≡ list_any has_fault l.given
