use Rattle.std.proofs.Common.{◌<◌, ℕ, get_or}
use Rattle.occ_board.specs.inside.Likeness.{IsAlikeRead}
use Rattle.occ_project.specs.declared.reads.Read.{Read}
use Rattle.occ_board.proofs.comparing.are_alike_reads.Given as goal

abbrev pub invariant-loop-i : goal.invariant-loop-i
invariant-loop-i l = (j : ℕ) (d : Read) → j < l.i → IsAlikeRead (get_or l.a j d) (get_or l.b j d)
