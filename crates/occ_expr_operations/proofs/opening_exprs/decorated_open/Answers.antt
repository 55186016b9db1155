use Rattle.std.proofs.Common.{arith}
use Rattle.std.proofs.lemmas.Grind.{common_steps}
use Rattle.occ_expr_operations.specs.OpenExprs.{decorated_open}
use Rattle.occ_expr_operations.proofs.opening_exprs.decorated_open.Goals as goal

pub returns-in-Faulty : goal.returns-in-Faulty
unfolding decorated_open
returns-in-Faulty c = grind (arith, common_steps)

pub returns-in-Untyped : goal.returns-in-Untyped
unfolding decorated_open
returns-in-Untyped c = grind (arith, common_steps)

pub returns-in_default : goal.returns-in_default
unfolding decorated_open
returns-in_default c = grind (arith, common_steps)

pub returns-in_ok-share-in-Known : goal.returns-in_ok-share-in-Known
unfolding decorated_open
returns-in_ok-share-in-Known c = grind (arith, common_steps)
