use Rattle.std.proofs.Common.{arith}
use Rattle.std.proofs.lemmas.Grind.{common_steps}
use Rattle.occ_expr_operations.proofs.Layers.{layer_rules}
use Rattle.occ_expr_operations.proofs.calling.each_result.Goals as goal

pub returns-clause-open_exprs : goal.returns-clause-open_exprs
returns-clause-open_exprs c = grind (arith, common_steps, layer_rules)

pub returns-clause-terms : goal.returns-clause-terms
returns-clause-terms c = grind (arith, common_steps, layer_rules)

pub loop-of-preserved : goal.loop-of-preserved
loop-of-preserved c = grind (arith, common_steps, layer_rules)
