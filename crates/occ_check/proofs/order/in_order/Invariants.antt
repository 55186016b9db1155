use Rattle.std.proofs.Common.{◌≡◌, length}
use Rattle.occ_base.specs.Order.{diag_order, placed}
use Rattle.occ_check.specs.Order.{in_order}
use Rattle.occ_check.proofs.order.in_order.Given as goal

abbrev pub invariant-loop-diag : goal.invariant-loop-diag
invariant-loop-diag l = placed diag_order l.found l.set.keys ≡ in_order l.fn.found

abbrev pub decreases-loop-diag : goal.decreases-loop-diag
decreases-loop-diag l = length l.found
