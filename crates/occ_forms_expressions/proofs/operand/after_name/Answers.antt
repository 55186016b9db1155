use Rattle.std.proofs.Common.{arith, refl}
use Rattle.std.proofs.lemmas.Grind.{common_steps}
use Rattle.occ_forms_expressions.proofs.Named.{call_found, element_found, no_call}
use Rattle.occ_forms_expressions.proofs.operand.after_name.Goals as goal

pub returns-in_default-2-clause-element : goal.returns-in_default-2-clause-element
returns-in_default-2-clause-element g c es k after e = no_call es k _ _ after c.in-Some.ensures e

pub returns-in-Some-clause-found : goal.returns-in-Some-clause-found
returns-in-Some-clause-found g c = call_found _ _ _ _ _ c.in-Some.ensures (rw c.in-Some-2.is at c.in_ok-found.ensures.found)

pub returns-in-Some-clause-element : goal.returns-in-Some-clause-element
returns-in-Some-clause-element g c es k after e = absurd (no_call es k _ _ after c.in-Some.ensures e)

pub returns-clause-found : goal.returns-clause-found
returns-clause-found g c = element_found _ _ _ _ _ refl (rw c.in-Some-3.is at c.in_ok-found-2.ensures.found)

pub returns-clause-shorter : goal.returns-clause-shorter
returns-clause-shorter g c = grind (arith, common_steps)

pub returns-clause-element : goal.returns-clause-element
returns-clause-element g c = grind (arith, common_steps)

pub returns-clause-call : goal.returns-clause-call
returns-clause-call g c = grind (arith, common_steps)

pub returns-in_default-2-clause-found : goal.returns-in_default-2-clause-found
returns-in_default-2-clause-found g c = grind (arith, common_steps)

pub returns-in_default-2-clause-shorter : goal.returns-in_default-2-clause-shorter
returns-in_default-2-clause-shorter g c = grind (arith, common_steps)

pub returns-in_default-2-clause-call : goal.returns-in_default-2-clause-call
returns-in_default-2-clause-call g c = grind (arith, common_steps)

pub returns-in_default-3-clause-found : goal.returns-in_default-3-clause-found
returns-in_default-3-clause-found g c = grind (arith, common_steps)

pub returns-in_default-3-clause-shorter : goal.returns-in_default-3-clause-shorter
returns-in_default-3-clause-shorter g c = grind (arith, common_steps)

pub returns-in_default-3-clause-element : goal.returns-in_default-3-clause-element
returns-in_default-3-clause-element g c = grind (arith, common_steps)

pub returns-in_default-3-clause-call : goal.returns-in_default-3-clause-call
returns-in_default-3-clause-call g c = grind (arith, common_steps)

pub returns-in-Some-clause-shorter : goal.returns-in-Some-clause-shorter
returns-in-Some-clause-shorter g c = grind (arith, common_steps)

pub returns-in-Some-clause-call : goal.returns-in-Some-clause-call
returns-in-Some-clause-call g c = grind (arith, common_steps)
