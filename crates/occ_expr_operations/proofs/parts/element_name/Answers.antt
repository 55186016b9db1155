use Rattle.std.proofs.Common.{arith}
use Rattle.std.proofs.lemmas.Grind.{common_steps}
use Rattle.occ_expr_operations.proofs.Views.{name_rules}
use Rattle.occ_expr_operations.proofs.parts.element_name.Goals as goal

pub returns-in-None : goal.returns-in-None
returns-in-None c = grind (arith, common_steps, name_rules)

pub returns-in-Segment : goal.returns-in-Segment
returns-in-Segment c = grind (arith, common_steps, name_rules)

pub returns-in-Some : goal.returns-in-Some
returns-in-Some c = grind (arith, common_steps, name_rules)
