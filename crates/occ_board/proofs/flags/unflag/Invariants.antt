use Rattle.occ_board.proofs.Marked.{IsUnflagged}
use Rattle.occ_board.proofs.flags.unflag.Given as goal

abbrev pub invariant-loop-place : goal.invariant-loop-place
invariant-loop-place l = IsUnflagged l.fn.flags l.indices l.flags l.place
