use Rattle.occ_theorems.proofs.Alone.{none_lost}
use Rattle.occ_usage.proofs.Exact.{same_diags}
use Rattle.occ_theorems.proofs.projects.order_law.Goals as goal

pub returns-clause-alone : goal.returns-clause-alone
returns-clause-alone c = same_diags

pub returns-clause-kept : goal.returns-clause-kept
returns-clause-kept c = none_lost
