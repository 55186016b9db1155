use Rattle.std.proofs.Common.{◌≡◌, ◌<◌, ◌≤◌, ◌-◌, ℕ, false, get_or, length, true}
use Rattle.occ_board.proofs.taking.past_runs.Given as goal

abbrev pub invariant-loop-index : goal.invariant-loop-index
invariant-loop-index l = (p : ℕ) → l.fn.from ≤ p → p < l.index → get_or l.flags p false ≡ true

abbrev pub decreases-loop-index : goal.decreases-loop-index
decreases-loop-index l = length l.flags - l.index
