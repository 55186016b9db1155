use Rattle.std.proofs.Common.{◌≡◌, ◌++◌, drop}
use Rattle.occ_protocol.specs.Wanting.{each_wanted}
use Rattle.occ_protocol.proofs.want.each_wanted.Given as goal

abbrev pub invariant-loop-item : goal.invariant-loop-item
invariant-loop-item l = l.wanted ++ each_wanted (drop l.item-index l.items) l.shapes ≡ each_wanted l.items l.initial.shapes
