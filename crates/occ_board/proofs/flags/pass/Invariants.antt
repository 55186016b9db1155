use Rattle.occ_board.proofs.Settled.{IsPass}
use Rattle.occ_board.proofs.flags.pass.Given as goal
use Rattle.occ_board.specs.inside.Verified.{AreVerified}

abbrev pub invariant-loop-index : goal.invariant-loop-index
invariant-loop-index l = IsPass l.graph l.cached l.fn.flags l.flags l.advanced l.index × AreVerified l.graph l.cached l.verified
