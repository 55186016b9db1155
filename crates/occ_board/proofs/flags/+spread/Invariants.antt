use Rattle.std.proofs.Common.{◌+◌}
use Rattle.occ_board.proofs.Spread.{IsSpread}
use Rattle.occ_board.proofs.flags.+spread.Given as goal
use Rattle.occ_board.specs.inside.Verified.{AreVerified}
use Rattle.occ_board.specs.inside.Flagged.{unflagged}

abbrev pub decreases-spread : goal.decreases-spread
decreases-spread l = unflagged l.flags.now + unflagged l.flags.now

abbrev pub decreases-spread_to : goal.decreases-spread_to
decreases-spread_to l = unflagged l.flags.now + unflagged l.flags.now + 1

abbrev pub invariant-spread-loop-place : goal.invariant-spread-loop-place
invariant-spread-loop-place l = IsSpread l.graph l.cached l.users l.fn.flags l.flags l.fn.index l.place × AreVerified l.graph l.cached l.verified
