use Rattle.std.proofs.Common.{length}
use Rattle.occ_editor_edits.proofs.head.+number.Given as goal

abbrev pub decreases-number : goal.decreases-number
decreases-number l = length l.digits.now
