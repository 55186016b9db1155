use Rattle.std.proofs.Common.{◌≡◌, ◌++◌, drop, map}
use Rattle.occ_protocol.specs.Wanting.{nothing}
use Rattle.occ_protocol.proofs.want.all_nothing.Given as goal

abbrev pub invariant-loop-shape : goal.invariant-loop-shape
invariant-loop-shape l = l.wanted ++ map nothing (drop l.shape-index l.shapes) ≡ map nothing l.shapes
