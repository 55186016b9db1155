use Rattle.occ_theorems.proofs.Once.{among_law, gathered_law}
use Rattle.occ_theorems.proofs.uses.distinct_law.Goals as goal

pub returns-clause-among : goal.returns-clause-among
returns-clause-among c = among_law

pub returns-clause-told : goal.returns-clause-told
returns-clause-told c = gathered_law
