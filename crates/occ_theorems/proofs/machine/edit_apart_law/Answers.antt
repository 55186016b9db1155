use Rattle.std.proofs.Common.{None, []}
use Rattle.occ_board.proofs.Edited.{same_done_later, same_input_later}
use Rattle.occ_theorems.proofs.machine.edit_apart_law.Goals as goal
use Rattle.occ_check.proofs.Local.{is_local}
use Rattle.occ_check.specs.Checks.{check_step, checked}

pub returns-clause-input : goal.returns-clause-input
unfolding checked
returns-clause-input c = λ s session e u based apart.
    same_input_later c.put_law.ensures.files c.put_law.ensures.in_order c.reads_law.ensures.alone c.reads_law.ensures.itself c.circle_law.ensures c.height_law.ensures c.done_law.ensures.project
    (λ files h v. c.along_law.ensures files (check_step files) (record { diags = []; interface = None }) h (is_local files) v) s session e u based apart

pub returns-clause-done : goal.returns-clause-done
unfolding checked
returns-clause-done c = λ s session e u based apart.
    same_done_later c.put_law.ensures.files c.put_law.ensures.in_order c.reads_law.ensures.alone c.reads_law.ensures.itself c.circle_law.ensures c.height_law.ensures c.done_law.ensures.project
    (λ files h v. c.along_law.ensures files (check_step files) (record { diags = []; interface = None }) h (is_local files) v) c.done_law.ensures.done s session e u based apart
