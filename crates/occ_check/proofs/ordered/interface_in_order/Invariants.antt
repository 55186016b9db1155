use Rattle.std.proofs.Common.{◌≡◌, map, take}
use Rattle.occ_check.specs.Ordered.{ordered_export}
use Rattle.occ_check.proofs.ordered.interface_in_order.Given as goal

abbrev pub invariant-loop-export : goal.invariant-loop-export
invariant-loop-export l = l.exports ≡ map ordered_export (take l.export-index l.interface.exports)
