use Rattle.std.proofs.Common.{length}
use Rattle.occ_editor_edits.proofs.head.+told.Given as goal

abbrev pub decreases-told : goal.decreases-told
decreases-told l = length l.line.now
