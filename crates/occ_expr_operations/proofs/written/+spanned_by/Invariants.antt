use Rattle.std.proofs.Common.{length}
use Rattle.occ_expr_operations.proofs.written.+spanned_by.Given as goal

abbrev pub decreases-spanned_by : goal.decreases-spanned_by
decreases-spanned_by l = length l.extents.now
