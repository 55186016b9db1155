use Rattle.std.proofs.Common.{arith}
use Rattle.std.proofs.lemmas.Grind.{common_steps}
use Rattle.occ_expr_operations.proofs.Views.{name_rules}
use Rattle.occ_expr_operations.proofs.parts.operand_name.Goals as goal

pub returns-in-Call : goal.returns-in-Call
returns-in-Call c = grind (arith, common_steps, name_rules)

pub returns-in-Decorated : goal.returns-in-Decorated
returns-in-Decorated c = grind (arith, common_steps, name_rules)

pub returns-in-DecoratedTable : goal.returns-in-DecoratedTable
returns-in-DecoratedTable c = grind (arith, common_steps, name_rules)

pub returns-in-Element : goal.returns-in-Element
returns-in-Element c = grind (arith, common_steps, name_rules)

pub returns-in-Literal : goal.returns-in-Literal
returns-in-Literal c = grind (arith, common_steps, name_rules)

pub returns-in-Parens : goal.returns-in-Parens
returns-in-Parens c = grind (arith, common_steps, name_rules)

pub returns-in-Table : goal.returns-in-Table
returns-in-Table c = grind (arith, common_steps, name_rules)

pub returns-in-Truth : goal.returns-in-Truth
returns-in-Truth c = grind (arith, common_steps, name_rules)
