use Rattle.std.proofs.Common.{◌≡◌, ◌++◌, drop, map}
use Rattle.occ_protocol.specs.Wanting.{hidden}
use Rattle.occ_protocol.proofs.want.all_hidden.Given as goal

abbrev pub invariant-loop-shape : goal.invariant-loop-shape
invariant-loop-shape l = l.wanted ++ map hidden (drop l.shape-index l.shapes) ≡ map hidden l.shapes
