use Rattle.std.proofs.Common.{arith}
use Rattle.std.proofs.lemmas.Grind.{common_steps}
use Rattle.occ_expr_operations.proofs.operation.negated.Goals as goal

pub returns-in-None-clause-open_expr : goal.returns-in-None-clause-open_expr
returns-in-None-clause-open_expr c = grind (arith, common_steps)

pub returns-in-None-clause-faults : goal.returns-in-None-clause-faults
returns-in-None-clause-faults c = grind (arith, common_steps)

pub returns-in-None-clause-term : goal.returns-in-None-clause-term
returns-in-None-clause-term c = grind (arith, common_steps)

pub returns-in-Some-clause-open_expr : goal.returns-in-Some-clause-open_expr
returns-in-Some-clause-open_expr c = grind (arith, common_steps)

pub returns-in-Some-clause-faults : goal.returns-in-Some-clause-faults
returns-in-Some-clause-faults c = grind (arith, common_steps)

pub returns-in-Some-clause-term : goal.returns-in-Some-clause-term
returns-in-Some-clause-term c = grind (arith, common_steps)
