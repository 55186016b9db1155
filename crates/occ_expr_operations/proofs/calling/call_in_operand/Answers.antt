use Rattle.std.proofs.Common.{arith}
use Rattle.std.proofs.lemmas.Grind.{common_steps}
use Rattle.occ_expr_operations.proofs.Layers.{layer_rules}
use Rattle.occ_expr_operations.proofs.calling.call_in_operand.Goals as goal

pub returns-in-Call : goal.returns-in-Call
returns-in-Call c = grind (arith, common_steps, layer_rules)

pub returns-in-Decorated : goal.returns-in-Decorated
returns-in-Decorated c = grind (arith, common_steps, layer_rules)

pub returns-in-DecoratedTable : goal.returns-in-DecoratedTable
returns-in-DecoratedTable c = grind (arith, common_steps, layer_rules)

pub returns-in-Element : goal.returns-in-Element
returns-in-Element c = grind (arith, common_steps, layer_rules)

pub returns-in-Literal : goal.returns-in-Literal
returns-in-Literal c = grind (arith, common_steps, layer_rules)

pub returns-in-Parens : goal.returns-in-Parens
returns-in-Parens c = grind (arith, common_steps, layer_rules)

pub returns-in-Table : goal.returns-in-Table
returns-in-Table c = grind (arith, common_steps, layer_rules)

pub returns-in-Truth : goal.returns-in-Truth
returns-in-Truth c = grind (arith, common_steps, layer_rules)
