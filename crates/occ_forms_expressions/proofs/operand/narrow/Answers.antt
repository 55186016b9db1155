use Rattle.std.proofs.Common.{arith}
use Rattle.std.proofs.lemmas.Grind.{common_steps}
use Rattle.occ_forms_expressions.proofs.Narrow.{narrow_rules}
use Rattle.occ_forms_expressions.proofs.operand.narrow.Goals as goal

pub returns-in-Element : goal.returns-in-Element
returns-in-Element c = grind (arith, narrow_rules)

pub returns-in-Literal : goal.returns-in-Literal
returns-in-Literal c = grind (arith, narrow_rules)

pub returns-in-Decorated : goal.returns-in-Decorated
returns-in-Decorated c = grind (arith, narrow_rules)

pub returns-in-Truth : goal.returns-in-Truth
returns-in-Truth c = grind (arith, narrow_rules)

pub returns-in-Parens : goal.returns-in-Parens
returns-in-Parens c = grind (arith, narrow_rules)

pub returns-in-Table : goal.returns-in-Table
returns-in-Table c = grind (arith, narrow_rules)

pub returns-in-DecoratedTable : goal.returns-in-DecoratedTable
returns-in-DecoratedTable c = grind (arith, narrow_rules)
