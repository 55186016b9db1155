use Rattle.std.proofs.Common.{arith}
use Rattle.std.proofs.lemmas.Grind.{common_steps}
use Rattle.occ_expr_operations.proofs.operation.shifted_by.Goals as goal

pub returns-clause-open_expr : goal.returns-clause-open_expr
returns-clause-open_expr c = grind (arith, common_steps)

pub returns-clause-faults : goal.returns-clause-faults
returns-clause-faults c = grind (arith, common_steps)

pub returns-clause-term : goal.returns-clause-term
returns-clause-term c = grind (arith, common_steps)

pub returns-in_default-clause-open_expr : goal.returns-in_default-clause-open_expr
returns-in_default-clause-open_expr c = grind (arith, common_steps)

pub returns-in_default-clause-faults : goal.returns-in_default-clause-faults
returns-in_default-clause-faults c = grind (arith, common_steps)

pub returns-in_default-clause-term : goal.returns-in_default-clause-term
returns-in_default-clause-term c = grind (arith, common_steps)
