use Rattle.occ_has_type.proofs.Known.{element_exactly, element_silent}
use Rattle.occ_has_type.proofs.laws.element_type_law.Goals as goal

pub returns-clause-exactly : goal.returns-clause-exactly
returns-clause-exactly c = element_exactly

pub returns-clause-silent : goal.returns-clause-silent
returns-clause-silent c = element_silent
