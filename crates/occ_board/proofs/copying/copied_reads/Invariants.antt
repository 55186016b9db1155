use Rattle.std.proofs.Common.{◌≡◌, take}
use Rattle.occ_board.proofs.copying.copied_reads.Given as goal

abbrev pub invariant-loop-read : goal.invariant-loop-read
invariant-loop-read l = l.copies ≡ take l.read-index l.reads
