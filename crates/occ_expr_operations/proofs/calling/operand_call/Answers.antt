use Rattle.std.proofs.Common.{arith}
use Rattle.std.proofs.lemmas.Grind.{common_steps}
use Rattle.occ_expr_operations.proofs.Layers.{layer_rules}
use Rattle.occ_expr_operations.proofs.calling.operand_call.Goals as goal

pub returns-in-Faulty : goal.returns-in-Faulty
returns-in-Faulty c = grind (arith, common_steps, layer_rules)

pub returns-in-Untyped : goal.returns-in-Untyped
returns-in-Untyped c = grind (arith, common_steps, layer_rules)

pub returns-in_ok-called_tree-in-Known : goal.returns-in_ok-called_tree-in-Known
returns-in_ok-called_tree-in-Known c = grind (arith, common_steps, layer_rules)
