use Rattle.occ_board.proofs.Marked.{IsTouched}
use Rattle.occ_board.proofs.touching.touched_by.Given as goal

abbrev pub invariant-loop-reader : goal.invariant-loop-reader
invariant-loop-reader l = IsTouched l.graph l.flags l.all l.index l.readers l.touched l.reader-index
