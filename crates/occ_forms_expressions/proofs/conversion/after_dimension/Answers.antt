use Rattle.std.proofs.Common.{arith}
use Rattle.std.proofs.lemmas.Grind.{common_steps}
use Rattle.occ_forms_expressions.proofs.conversion.after_dimension.Goals as goal

pub returns-clause-found : goal.returns-clause-found
returns-clause-found g c = grind (arith, common_steps)

pub returns-clause-shorter : goal.returns-clause-shorter
returns-clause-shorter g c = grind (arith, common_steps)

pub returns-in_default-clause-found : goal.returns-in_default-clause-found
returns-in_default-clause-found g c = grind (arith, common_steps)

pub returns-in_default-clause-shorter : goal.returns-in_default-clause-shorter
returns-in_default-clause-shorter g c = grind (arith, common_steps)

pub returns-in_default-2-clause-found : goal.returns-in_default-2-clause-found
returns-in_default-2-clause-found g c = grind (arith, common_steps)

pub returns-in_default-2-clause-shorter : goal.returns-in_default-2-clause-shorter
returns-in_default-2-clause-shorter g c = grind (arith, common_steps)
