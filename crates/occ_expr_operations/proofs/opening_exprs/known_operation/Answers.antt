use Rattle.std.proofs.Common.{arith}
use Rattle.std.proofs.lemmas.Grind.{common_steps}
use Rattle.occ_expr_operations.specs.OpenExprs.{operation_open}
use Rattle.occ_expr_operations.proofs.opening_exprs.known_operation.Goals as goal

pub returns : goal.returns
unfolding operation_open
returns c = grind (arith, common_steps)

pub returns-in_default : goal.returns-in_default
unfolding operation_open
returns-in_default c = grind (arith, common_steps)
