use Rattle.std.proofs.Common.{arith}
use Rattle.std.proofs.lemmas.Grind.{common_steps}
use Rattle.occ_expr_operations.specs.OpenExprs.{front_open}
use Rattle.occ_expr_operations.proofs.opening_exprs.front_open.Goals as goal

pub returns-in-Faulty : goal.returns-in-Faulty
unfolding front_open
returns-in-Faulty c = grind (arith, common_steps)

pub returns-in-Known : goal.returns-in-Known
unfolding front_open
returns-in-Known c = grind (arith, common_steps)

pub returns-in_ok-share-in-Untyped : goal.returns-in_ok-share-in-Untyped
unfolding front_open
returns-in_ok-share-in-Untyped c = grind (arith, common_steps)
