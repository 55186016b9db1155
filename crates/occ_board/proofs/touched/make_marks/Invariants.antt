use Rattle.std.proofs.Common.{◌≡◌, drop, length}
use Rattle.occ_board.proofs.touched.make_marks.Given as goal
use Rattle.occ_board.specs.inside.Touched.{marked, marked_too}

abbrev pub invariant-loop-index : goal.invariant-loop-index
invariant-loop-index l = (marked_too l.marks.items (drop l.index-index l.indices) ≡ marked l.count l.indices) × (length l.marks.items ≡ l.count)
