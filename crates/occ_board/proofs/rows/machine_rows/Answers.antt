use Rattle.occ_board.proofs.Run.{is_accepted, is_handed, is_no_job, is_none_pending, is_repeated}
use Rattle.occ_board.proofs.rows.machine_rows.Goals as goal

pub returns-clause-handed : goal.returns-clause-handed
returns-clause-handed c = is_handed

pub returns-clause-accepted : goal.returns-clause-accepted
returns-clause-accepted c = is_accepted

pub returns-clause-done : goal.returns-clause-done
returns-clause-done c = is_none_pending

pub returns-clause-repeated : goal.returns-clause-repeated
returns-clause-repeated c = is_repeated

pub returns-clause-no_job : goal.returns-clause-no_job
returns-clause-no_job c = is_no_job
