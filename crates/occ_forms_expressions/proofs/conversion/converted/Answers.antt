use Rattle.std.proofs.Common.{arith}
use Rattle.std.proofs.lemmas.Grind.{common_steps}
use Rattle.occ_forms_expressions.proofs.Conversions.{converted_found, converted_same}
use Rattle.occ_forms_expressions.proofs.Words.{operand_no_counted}
use Rattle.occ_forms_expressions.proofs.conversion.converted.Goals as goal

pub returns-clause-found : goal.returns-clause-found
returns-clause-found g c = converted_found _ _ _ _ _ _ _ _ (rw c.in-Some.is at c.in_ok-form.ensures.found) (rw c.in-Some-2.is at c.in_ok-operand.ensures.found) c.in_ok-form-2.ensures c.in_ok-operand-2.ensures

pub returns-clause-only : goal.returns-clause-only
returns-clause-only g c b o k after e =
    let h = rw c.in-Some.is at c.in_ok-form.ensures.only b _ (operand_no_counted o k) e in
    let m = rw c.in-Some-2.is at c.in_ok-operand.ensures.only o k after h.1 in
    (converted_same _ _ _ _ _ _ _ c.in_ok-form-2.ensures c.in_ok-operand-2.ensures h.0 m.0, m.1)

pub returns-clause-shorter : goal.returns-clause-shorter
returns-clause-shorter g c = grind (arith, common_steps)

pub returns-in_default-clause-found : goal.returns-in_default-clause-found
returns-in_default-clause-found g c = grind (arith, common_steps)

pub returns-in_default-clause-shorter : goal.returns-in_default-clause-shorter
returns-in_default-clause-shorter g c = grind (arith, common_steps)

pub returns-in_default-2-clause-found : goal.returns-in_default-2-clause-found
returns-in_default-2-clause-found g c = grind (arith, common_steps)

pub returns-in_default-2-clause-shorter : goal.returns-in_default-2-clause-shorter
returns-in_default-2-clause-shorter g c = grind (arith, common_steps)
