use Rattle.std.proofs.Common.{arith}
use Rattle.occ_board.specs.Machine.{pending_answer}
use Rattle.occ_theorems.proofs.Settled.{none_left, settles_in}
use Rattle.occ_theorems.proofs.machine.settling_law.Goals as goal

pub returns-clause-settles : goal.returns-clause-settles
returns-clause-settles c = λ s based. settles_in c.taking_law.ensures.fewer c.taking_law.ensures.none (pending_answer s) s based (omega arith)

pub returns-clause-done : goal.returns-clause-done
returns-clause-done c = λ s based spelled nothing. none_left c.taking_law.ensures.fewer c.taking_law.ensures.none c.same_input_law.ensures.inputs c.ready_law.ensures (pending_answer s) s based (omega arith) spelled nothing
