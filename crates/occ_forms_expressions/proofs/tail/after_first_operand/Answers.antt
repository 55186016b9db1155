use Rattle.occ_forms_expressions.proofs.Tailed.{joined_found}
use Rattle.occ_forms_expressions.proofs.tail.after_first_operand.Goals as goal

pub returns-clause-found : goal.returns-clause-found
returns-clause-found g c = joined_found _ _ _ _ _ (rw c.in-Some.is at c.in_ok-tail.ensures.found) c.in_ok-whole.ensures
