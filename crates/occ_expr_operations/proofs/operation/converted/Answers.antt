use Rattle.std.proofs.Common.{arith}
use Rattle.std.proofs.lemmas.Grind.{common_steps}
use Rattle.occ_expr_operations.specs.Operations.{converted}
use Rattle.occ_expr_operations.specs.OpenExprs.{conversion_open}
use Rattle.occ_expr_operations.proofs.operation.converted.Goals as goal

pub returns-clause-open_expr : goal.returns-clause-open_expr
unfolding converted conversion_open
returns-clause-open_expr c = grind (arith, common_steps)

pub returns-clause-faults : goal.returns-clause-faults
unfolding converted conversion_open
returns-clause-faults c = grind (arith, common_steps)

pub returns-clause-term : goal.returns-clause-term
unfolding converted conversion_open
returns-clause-term c = grind (arith, common_steps)
