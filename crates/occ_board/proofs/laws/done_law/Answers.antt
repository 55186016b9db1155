use Rattle.std.proofs.Common.{false}
use Rattle.occ_board.proofs.Bases.{in_order}
use Rattle.occ_board.proofs.Resting.{is_local}
use Rattle.occ_board.proofs.laws.done_law.Goals as goal
use Rattle.occ_board.specs.Done.{done, done_step}

pub returns-clause-project : goal.returns-clause-project
returns-clause-project c = in_order c.put_law.ensures.in_order

pub returns-clause-done : goal.returns-clause-done
unfolding done
returns-clause-done c = λ files cached u h. c.along_law.ensures files (done_step files cached) false h (is_local files cached) u
