use Rattle.std.proofs.Common.{◌≡◌, drop, map, max}
use Rattle.occ_forms_expressions.specs.Depth.{greatest}
use Rattle.occ_forms_expressions.proofs.measured.any_has_many_dimensions.Given as goal

abbrev pub invariant-loop-item : goal.invariant-loop-item
invariant-loop-item g l = max 64 (greatest (map g.T.Measured.dimensions (drop l.item-index l.items))) ≡ max 64 (greatest (map g.T.Measured.dimensions l.items))
