use Rattle.std.proofs.Common.{arith}
use Rattle.std.proofs.lemmas.Grind.{common_steps}
use Rattle.occ_expr_operations.proofs.OpenTypes.{type_rules}
use Rattle.occ_expr_operations.proofs.opening_exprs.operands_type.Goals as goal

pub returns : goal.returns
returns c = grind (arith, common_steps, type_rules)

pub returns-in-Some : goal.returns-in-Some
returns-in-Some c = grind (arith, common_steps, type_rules)

pub loop-operand-preserved : goal.loop-operand-preserved
loop-operand-preserved c = grind (arith, common_steps, type_rules)
