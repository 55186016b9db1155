use Rattle.occ_project_units.proofs.Narrowed.{own_given, own_reads}
use Rattle.occ_project_units.proofs.Looks.{looks_at_reads, reads_itself}
use Rattle.occ_project_units.proofs.laws.reads_law.Goals as goal

pub returns-clause-alone : goal.returns-clause-alone
returns-clause-alone c = looks_at_reads

pub returns-clause-itself : goal.returns-clause-itself
returns-clause-itself c = reads_itself

pub returns-clause-own : goal.returns-clause-own
returns-clause-own c = own_reads

pub returns-clause-given : goal.returns-clause-given
returns-clause-given c = own_given
