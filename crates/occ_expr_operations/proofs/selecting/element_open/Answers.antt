use Rattle.std.proofs.Common.{arith}
use Rattle.std.proofs.lemmas.Grind.{common_steps}
use Rattle.occ_expr_operations.proofs.Fields.{front_rules}
use Rattle.occ_expr_operations.proofs.selecting.element_open.Goals as goal

pub returns : goal.returns
returns c = grind (arith, common_steps, front_rules)

pub returns-in_default : goal.returns-in_default
returns-in_default c = grind (arith, common_steps, front_rules)
