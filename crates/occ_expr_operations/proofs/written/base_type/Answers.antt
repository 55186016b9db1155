use Rattle.std.proofs.Common.{arith}
use Rattle.std.proofs.lemmas.Grind.{common_steps}
use Rattle.occ_expr_operations.proofs.written.base_type.Goals as goal

pub returns-in-Named-clause-faults : goal.returns-in-Named-clause-faults
returns-in-Named-clause-faults c = grind (arith, common_steps)

pub returns-in-Named-clause-found : goal.returns-in-Named-clause-found
returns-in-Named-clause-found c = grind (arith, common_steps)

pub returns-in_ok-new-in-Primitive-clause-faults : goal.returns-in_ok-new-in-Primitive-clause-faults
returns-in_ok-new-in-Primitive-clause-faults c = grind (arith, common_steps)

pub returns-in_ok-new-in-Primitive-clause-found : goal.returns-in_ok-new-in-Primitive-clause-found
returns-in_ok-new-in-Primitive-clause-found c = grind (arith, common_steps)
