use Rattle.occ_editor_edits.specs.Frames.{IsRead}
use Rattle.occ_editor_edits.proofs.reading.read_head.Given as goal

abbrev pub invariant-loop-count : goal.invariant-loop-count
invariant-loop-count g l = IsRead (g.R.Read.remaining l.initial.reader) (g.R.Read.remaining l.reader) l.count l.size
