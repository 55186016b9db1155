use Rattle.std.proofs.Common.{◌≡◌, ◌<◌, ℕ, false, get_or, length}
use Rattle.occ_board.proofs.flags.unflag_all.Given as goal

abbrev pub invariant-loop-index : goal.invariant-loop-index
invariant-loop-index l = (length l.flags ≡ length l.fn.flags) × ((p : ℕ) → p < l.index → get_or l.flags p false ≡ false)
