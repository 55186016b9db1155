use Rattle.std.proofs.Common.{arith}
use Rattle.std.proofs.lemmas.Grind.{common_steps}
use Rattle.occ_expr_operations.proofs.Views.{name_rules}
use Rattle.occ_expr_operations.proofs.parts.only.Goals as goal

pub returns-in-None-clause-part : goal.returns-in-None-clause-part
returns-in-None-clause-part c = grind (arith, common_steps, name_rules)

pub returns-in-None-clause-view : goal.returns-in-None-clause-view
returns-in-None-clause-view c = grind (arith, common_steps, name_rules)

pub returns-in-Some-clause-part : goal.returns-in-Some-clause-part
returns-in-Some-clause-part c = grind (arith, common_steps, name_rules)

pub returns-in-Some-clause-view : goal.returns-in-Some-clause-view
returns-in-Some-clause-view c = grind (arith, common_steps, name_rules)
