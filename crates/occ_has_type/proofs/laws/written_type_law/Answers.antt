use Rattle.occ_has_type.proofs.Known.{written_exactly, written_silent}
use Rattle.occ_has_type.proofs.laws.written_type_law.Goals as goal

pub returns-clause-exactly : goal.returns-clause-exactly
returns-clause-exactly c = written_exactly

pub returns-clause-silent : goal.returns-clause-silent
returns-clause-silent c = written_silent
