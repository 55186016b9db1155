use Rattle.std.proofs.Common.{◌≡◌, length}
use Rattle.occ_board.proofs.Marked.{IsResettled}
use Rattle.occ_board.proofs.flags.settle_among.Given as goal
use Rattle.occ_board.specs.inside.Verified.{AreVerified}
use Rattle.occ_board.specs.inside.Flagged.{IsSound}

abbrev pub invariant-loop-place : goal.invariant-loop-place
invariant-loop-place l = (length l.flags ≡ length l.graph) × IsSound l.graph l.cached l.flags × IsResettled l.graph l.cached l.indices l.flags l.place × AreVerified l.graph l.cached l.verified
