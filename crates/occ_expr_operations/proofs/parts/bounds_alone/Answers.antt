use Rattle.std.proofs.Common.{arith}
use Rattle.std.proofs.lemmas.Grind.{common_steps}
use Rattle.occ_expr_operations.proofs.Views.{name_rules}
use Rattle.occ_expr_operations.proofs.parts.bounds_alone.Goals as goal

pub returns-in-For : goal.returns-in-For
returns-in-For c = grind (arith, common_steps, name_rules)

pub returns-in-From : goal.returns-in-From
returns-in-From c = grind (arith, common_steps, name_rules)

pub returns-in_ok-report_alone-in-FromFor : goal.returns-in_ok-report_alone-in-FromFor
returns-in_ok-report_alone-in-FromFor c = grind (arith, common_steps, name_rules)
