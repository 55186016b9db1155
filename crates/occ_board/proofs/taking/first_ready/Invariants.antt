use Rattle.occ_board.proofs.taking.first_ready.Given as goal
use Rattle.occ_board.specs.inside.Ready.{NoneIsReady}

abbrev pub invariant-loop-index : goal.invariant-loop-index
invariant-loop-index l = NoneIsReady l.graph l.flags l.index
