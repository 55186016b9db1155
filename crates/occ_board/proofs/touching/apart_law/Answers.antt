use Rattle.std.proofs.Common.{None, []}
use Rattle.occ_board.proofs.Apart.{same_looked_there}
use Rattle.occ_board.proofs.Edited.{same_dones}
use Rattle.occ_board.proofs.touching.apart_law.Goals as goal
use Rattle.occ_check.proofs.Local.{is_local}
use Rattle.occ_check.specs.Checks.{check_step, checked}

pub returns-clause-looked : goal.returns-clause-looked
returns-clause-looked c = λ files file cached u apart. same_looked_there files file u apart (c.put_law.ensures.files files file) c.reads_law.ensures.alone c.reads_law.ensures.itself c.circle_law.ensures cached

pub returns-clause-done : goal.returns-clause-done
unfolding checked
returns-clause-done c = λ files file cached u project apart.
    same_dones c.put_law.ensures.files c.put_law.ensures.in_order c.reads_law.ensures.alone c.reads_law.ensures.itself c.circle_law.ensures c.height_law.ensures c.done_law.ensures.project
    (λ files h v. c.along_law.ensures files (check_step files) (record { diags = []; interface = None }) h (is_local files) v) c.done_law.ensures.done files file cached u project apart
