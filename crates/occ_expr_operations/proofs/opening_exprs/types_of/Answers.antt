use Rattle.std.proofs.Common.{arith}
use Rattle.std.proofs.lemmas.Grind.{common_steps}
use Rattle.occ_expr_operations.proofs.OpenTypes.{type_rules}
use Rattle.occ_expr_operations.proofs.opening_exprs.types_of.Goals as goal

pub returns : goal.returns
returns c = grind (arith, common_steps, type_rules)

pub loop-field-preserved : goal.loop-field-preserved
loop-field-preserved c = grind (arith, common_steps, type_rules)
