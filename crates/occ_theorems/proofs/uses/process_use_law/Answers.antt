use Rattle.occ_theorems.proofs.Using.{told_law, used_law}
use Rattle.occ_theorems.proofs.uses.process_use_law.Goals as goal

pub returns-clause-used : goal.returns-clause-used
returns-clause-used c = used_law

pub returns-clause-told : goal.returns-clause-told
returns-clause-told c = told_law
