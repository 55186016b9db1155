use Rattle.std.proofs.Common.{◌≡◌, ◌<◌, ◌≤◌, ℕ, false, get_or, true}
use Rattle.occ_board.proofs.taking.first_unflagged.Given as goal

abbrev pub invariant-loop-index : goal.invariant-loop-index
invariant-loop-index l = (p : ℕ) → l.fn.from ≤ p → p < l.index → get_or l.flags p false ≡ true
