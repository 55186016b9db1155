use Rattle.std.proofs.Common.{arith}
use Rattle.std.proofs.lemmas.Grind.{common_steps}
use Rattle.occ_expr_operations.proofs.Layers.{layer_rules}
use Rattle.occ_expr_operations.proofs.calling.one_result.Goals as goal

pub returns-clause-faults : goal.returns-clause-faults
returns-clause-faults c = grind (arith, common_steps, layer_rules)

pub returns-clause-kind : goal.returns-clause-kind
returns-clause-kind c = grind (arith, common_steps, layer_rules)

pub returns-then-is_none-clause-faults : goal.returns-then-is_none-clause-faults
returns-then-is_none-clause-faults c = grind (arith, common_steps, layer_rules)

pub returns-then-is_none-clause-kind : goal.returns-then-is_none-clause-kind
returns-then-is_none-clause-kind c = grind (arith, common_steps, layer_rules)
