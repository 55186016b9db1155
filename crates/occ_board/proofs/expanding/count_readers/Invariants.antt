use Rattle.std.proofs.Common.{◌≡◌, ◌≤◌, take}
use Rattle.occ_board.proofs.Readers.{readers_in}
use Rattle.occ_board.proofs.expanding.count_readers.Given as goal

abbrev pub invariant-loop-index : goal.invariant-loop-index
invariant-loop-index l = (l.count ≡ readers_in l.graph l.name (take l.index l.graph)) × (l.count ≤ l.index)
