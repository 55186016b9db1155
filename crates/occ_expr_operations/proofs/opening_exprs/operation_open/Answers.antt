use Rattle.std.proofs.Common.{arith}
use Rattle.std.proofs.lemmas.Grind.{common_steps}
use Rattle.occ_expr_operations.specs.OpenExprs.{operation_open}
use Rattle.occ_expr_operations.proofs.opening_exprs.operation_open.Goals as goal

pub returns-in-Faulty : goal.returns-in-Faulty
unfolding operation_open
returns-in-Faulty c = grind (arith, common_steps)

pub returns-in-Known : goal.returns-in-Known
unfolding operation_open
returns-in-Known c = grind (arith, common_steps)

pub returns-in_ok-share-in-Untyped : goal.returns-in_ok-share-in-Untyped
unfolding operation_open
returns-in_ok-share-in-Untyped c = grind (arith, common_steps)
