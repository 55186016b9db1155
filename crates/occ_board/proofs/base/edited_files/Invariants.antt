use Rattle.std.proofs.Common.{◌≡◌, ◌+◌, ◌≤◌, drop, length}
use Rattle.occ_board.specs.inside.Following.{edited_back}
use Rattle.occ_board.proofs.base.edited_files.Given as goal

abbrev pub invariant-loop-left : goal.invariant-loop-left
invariant-loop-left l = (l.left ≤ length l.entries) × (l.files ≡ edited_back (l.number + 1 + l.left) (drop l.left l.entries))

abbrev pub decreases-loop-left : goal.decreases-loop-left
decreases-loop-left l = l.left
