use Rattle.std.proofs.Common.{arith}
use Rattle.std.proofs.lemmas.Grind.{common_steps}
use Rattle.occ_expr_operations.proofs.Layers.{layer_rules}
use Rattle.occ_expr_operations.proofs.calling.formal_types.Goals as goal

pub returns : goal.returns
returns c = grind (arith, common_steps, layer_rules)

pub loop-formal-preserved : goal.loop-formal-preserved
loop-formal-preserved c = grind (arith, common_steps, layer_rules)
