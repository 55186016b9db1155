use Rattle.std.proofs.Common.{length}
use Rattle.std.specs.BTreeSet.{contains}
use Rattle.std.specs.Cmp.Lexicographic.{slice_cmp}
use Rattle.std.specs.Ordering.{nat_cmp}
use Rattle.occ_check.proofs.Exported.{IsPassed}
use Rattle.occ_check.proofs.export.last_of_each.Given as goal

abbrev pub invariant-loop-export : goal.invariant-loop-export
invariant-loop-export l = IsPassed l.fn.exports.items l.exports.items l.last.items (contains (slice_cmp nat_cmp) l.names)

abbrev pub decreases-loop-export : goal.decreases-loop-export
decreases-loop-export l = length l.exports.items
