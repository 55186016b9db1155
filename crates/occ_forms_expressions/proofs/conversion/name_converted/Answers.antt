use Rattle.std.proofs.lemmas.Grind.{common_steps}
use Rattle.std.proofs.Common.{arith, sym}
use Rattle.occ_forms_expressions.proofs.Conversions.{name_found}
use Rattle.occ_forms_expressions.proofs.conversion.name_converted.Goals as goal

pub returns-clause-found : goal.returns-clause-found
returns-clause-found g c = name_found _ _ _ _ _ _ _ c.name.view_is (rw c.in-Some.is at c.in_ok-operand.ensures.found) (sym (rw c.in-Some-2.is at c.in_ok-operand-2.ensures)) c.in_ok-new.ensures

pub returns-clause-shorter : goal.returns-clause-shorter
returns-clause-shorter g c = grind (arith, common_steps)

pub returns-in_default-clause-found : goal.returns-in_default-clause-found
returns-in_default-clause-found g c = grind (arith, common_steps)

pub returns-in_default-clause-shorter : goal.returns-in_default-clause-shorter
returns-in_default-clause-shorter g c = grind (arith, common_steps)

pub returns-in_default-2-clause-found : goal.returns-in_default-2-clause-found
returns-in_default-2-clause-found g c = grind (arith, common_steps)

pub returns-in_default-2-clause-shorter : goal.returns-in_default-2-clause-shorter
returns-in_default-2-clause-shorter g c = grind (arith, common_steps)
