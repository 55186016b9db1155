use Rattle.std.proofs.Common.{◌≡◌, length}
use Rattle.occ_board.proofs.flags.settle.Given as goal
use Rattle.occ_board.specs.inside.Verified.{AreVerified}
use Rattle.occ_board.specs.inside.Flagged.{IsSound, unflagged}

abbrev pub invariant-loop : goal.invariant-loop
invariant-loop l = (length l.flags ≡ length l.graph) × IsSound l.graph l.cached l.flags × AreVerified l.graph l.cached l.verified

abbrev pub decreases-loop : goal.decreases-loop
decreases-loop l = unflagged l.flags
