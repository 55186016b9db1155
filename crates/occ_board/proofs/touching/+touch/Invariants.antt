use Rattle.std.proofs.Common.{◌+◌}
use Rattle.occ_board.proofs.Marked.{IsTouch}
use Rattle.occ_board.proofs.touching.+touch.Given as goal
use Rattle.occ_board.specs.inside.Flagged.{unflagged}

abbrev pub decreases-touch : goal.decreases-touch
decreases-touch l = unflagged l.touched.now + unflagged l.touched.now + 1

abbrev pub decreases-touch_first : goal.decreases-touch_first
decreases-touch_first l = unflagged l.touched.now + unflagged l.touched.now

abbrev pub invariant-touch_first-loop-place : goal.invariant-touch_first-loop-place
invariant-touch_first-loop-place l = IsTouch l.graph l.flags l.all l.users l.fn.touched l.touched l.fn.index l.place
