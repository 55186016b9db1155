use Rattle.std.proofs.Common.{◌≡◌, length}
use Rattle.occ_base.specs.Order.{diag_order, placed}
use Rattle.occ_usage.proofs.finding.tell.Given as goal

abbrev pub invariant-loop-diag : goal.invariant-loop-diag
invariant-loop-diag l = placed diag_order l.found l.told.keys ≡ placed diag_order l.fn.found l.initial.told.keys

abbrev pub decreases-loop-diag : goal.decreases-loop-diag
decreases-loop-diag l = length l.found
