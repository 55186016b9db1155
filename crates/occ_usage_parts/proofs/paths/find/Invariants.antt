use Rattle.std.proofs.Common.{◌≤◌, length}
use Rattle.occ_usage_parts.proofs.paths.find.Given as goal

abbrev pub invariant-loop-at : goal.invariant-loop-at
invariant-loop-at l = l.after ≤ length l.paths

abbrev pub decreases-loop-at : goal.decreases-loop-at
decreases-loop-at l = l.after
