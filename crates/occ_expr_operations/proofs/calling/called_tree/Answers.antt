use Rattle.std.proofs.Common.{arith}
use Rattle.std.proofs.lemmas.Grind.{common_steps}
use Rattle.occ_expr_operations.specs.OpenExprs.{called_tree}
use Rattle.occ_expr_operations.proofs.calling.called_tree.Goals as goal

pub returns : goal.returns
unfolding called_tree
returns c = grind (arith, common_steps)

pub returns-in_default : goal.returns-in_default
unfolding called_tree
returns-in_default c = grind (arith, common_steps)
