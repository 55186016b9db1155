use Rattle.occ_theorems.proofs.Clashing.{targets_law, reported_law}
use Rattle.occ_theorems.proofs.uses.parallel_law.Goals as goal

pub returns-clause-reported : goal.returns-clause-reported
returns-clause-reported c = reported_law

pub returns-clause-targets : goal.returns-clause-targets
returns-clause-targets c = targets_law
