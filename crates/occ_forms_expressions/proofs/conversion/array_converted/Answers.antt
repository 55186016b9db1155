use Rattle.occ_forms_expressions.proofs.Conversions.{array_found}
use Rattle.occ_forms_expressions.proofs.conversion.array_converted.Goals as goal

pub returns-clause-found : goal.returns-clause-found
returns-clause-found g c = array_found _ _ _ _ _ _ _ _ (rw c.in-Some.is at c.in_ok-operand.ensures.found) c.in_ok-first.ensures c.in_ok-operand-2.ensures
