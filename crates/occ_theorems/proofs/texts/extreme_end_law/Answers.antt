use Rattle.occ_forms_expressions.proofs.Classes.{plain_ends}
use Rattle.occ_forms_expressions.proofs.TypeEnds.{array_ends}
use Rattle.occ_theorems.proofs.texts.extreme_end_law.Goals as goal

pub returns-clause-plain : goal.returns-clause-plain
returns-clause-plain c = plain_ends

pub returns-clause-counted : goal.returns-clause-counted
returns-clause-counted c = array_ends
