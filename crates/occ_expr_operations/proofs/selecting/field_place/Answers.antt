use Rattle.std.proofs.Common.{arith}
use Rattle.std.proofs.lemmas.Grind.{common_steps}
use Rattle.occ_expr_operations.proofs.Fields.{front_rules}
use Rattle.occ_expr_operations.proofs.selecting.field_place.Goals as goal

pub returns : goal.returns
returns c = grind (arith, common_steps, front_rules)

pub returns-then-is : goal.returns-then-is
returns-then-is c = grind (arith, common_steps, front_rules)

pub loop-field-preserved : goal.loop-field-preserved
loop-field-preserved c = grind (arith, common_steps, front_rules)
