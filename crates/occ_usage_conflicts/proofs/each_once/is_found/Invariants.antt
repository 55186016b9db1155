use Rattle.std.proofs.Common.{length}
use Rattle.occ_usage_conflicts.proofs.Looking.{IsClear}
use Rattle.occ_usage_conflicts.proofs.each_once.is_found.Given as goal

abbrev pub invariant-loop-place : goal.invariant-loop-place
invariant-loop-place l = IsClear l.one (length l.links.heads.items) l.found l.next

abbrev pub decreases-loop-place : goal.decreases-loop-place
decreases-loop-place l = l.next
