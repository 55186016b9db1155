use Rattle.std.proofs.Common.{◌≡◌, take}
use Rattle.occ_board.proofs.Shows.{rows_in}
use Rattle.occ_board.proofs.report.rows.Given as goal

abbrev pub invariant-loop-index : goal.invariant-loop-index
invariant-loop-index l = l.rows ≡ rows_in l.graph l.cached (take l.index l.graph)
