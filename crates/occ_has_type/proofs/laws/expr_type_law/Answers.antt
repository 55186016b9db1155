use Rattle.occ_has_type.proofs.Known.{alone_exactly, alone_silent, wanted_exactly, wanted_silent}
use Rattle.occ_has_type.proofs.laws.expr_type_law.Goals as goal

pub returns-clause-wanted : goal.returns-clause-wanted
returns-clause-wanted c = wanted_exactly

pub returns-clause-wanted_silent : goal.returns-clause-wanted_silent
returns-clause-wanted_silent c = wanted_silent

pub returns-clause-alone : goal.returns-clause-alone
returns-clause-alone c = alone_exactly

pub returns-clause-alone_silent : goal.returns-clause-alone_silent
returns-clause-alone_silent c = alone_silent
