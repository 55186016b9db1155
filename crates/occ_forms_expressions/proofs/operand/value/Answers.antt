use Rattle.std.proofs.Common.{arith}
use Rattle.std.proofs.lemmas.Grind.{common_steps}
use Rattle.occ_forms_expressions.proofs.operand.value.Goals as goal

pub returns-clause-found : goal.returns-clause-found
returns-clause-found g c = grind (arith, common_steps)

pub returns-clause-shorter : goal.returns-clause-shorter
returns-clause-shorter g c = grind (arith, common_steps)

pub returns-clause-literal : goal.returns-clause-literal
returns-clause-literal g c = grind (arith, common_steps)

pub returns-clause-decorated : goal.returns-clause-decorated
returns-clause-decorated g c = grind (arith, common_steps)

pub returns-clause-truth : goal.returns-clause-truth
returns-clause-truth g c = grind (arith, common_steps)

pub returns-in_default-clause-found : goal.returns-in_default-clause-found
returns-in_default-clause-found g c = grind (arith, common_steps)

pub returns-in_default-clause-shorter : goal.returns-in_default-clause-shorter
returns-in_default-clause-shorter g c = grind (arith, common_steps)

pub returns-in_default-clause-literal : goal.returns-in_default-clause-literal
returns-in_default-clause-literal g c = grind (arith, common_steps)

pub returns-in_default-clause-decorated : goal.returns-in_default-clause-decorated
returns-in_default-clause-decorated g c = grind (arith, common_steps)

pub returns-in_default-clause-truth : goal.returns-in_default-clause-truth
returns-in_default-clause-truth g c = grind (arith, common_steps)

pub returns-in_default-2-clause-found : goal.returns-in_default-2-clause-found
returns-in_default-2-clause-found g c = grind (arith, common_steps)

pub returns-in_default-2-clause-shorter : goal.returns-in_default-2-clause-shorter
returns-in_default-2-clause-shorter g c = grind (arith, common_steps)

pub returns-in_default-2-clause-literal : goal.returns-in_default-2-clause-literal
returns-in_default-2-clause-literal g c = grind (arith, common_steps)

pub returns-in_default-2-clause-decorated : goal.returns-in_default-2-clause-decorated
returns-in_default-2-clause-decorated g c = grind (arith, common_steps)

pub returns-in_default-2-clause-truth : goal.returns-in_default-2-clause-truth
returns-in_default-2-clause-truth g c = grind (arith, common_steps)
