use Rattle.std.proofs.Common.{◌≡◌, length}
use Rattle.occ_base.specs.Order.{diag_order, placed}
use Rattle.occ_usage.proofs.finding.tell_runs.Given as goal

abbrev pub invariant-loop-run : goal.invariant-loop-run
invariant-loop-run l = placed diag_order l.found l.told.keys ≡ placed diag_order l.fn.found l.initial.told.keys

abbrev pub decreases-loop-run : goal.decreases-loop-run
decreases-loop-run l = length l.found
