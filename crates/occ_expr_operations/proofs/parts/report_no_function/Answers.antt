use Rattle.std.proofs.Common.{arith}
use Rattle.std.proofs.lemmas.Grind.{common_steps}
use Rattle.occ_expr_operations.proofs.Views.{name_rules}
use Rattle.occ_expr_operations.proofs.parts.report_no_function.Goals as goal

pub returns : goal.returns
returns c = grind (arith, common_steps, name_rules)

pub returns-in-Some-Faulty : goal.returns-in-Some-Faulty
returns-in-Some-Faulty c = grind (arith, common_steps, name_rules)

pub returns-in-Some-Faulty-2 : goal.returns-in-Some-Faulty-2
returns-in-Some-Faulty-2 c = grind (arith, common_steps, name_rules)

pub returns-in-Some-Faulty-3 : goal.returns-in-Some-Faulty-3
returns-in-Some-Faulty-3 c = grind (arith, common_steps, name_rules)
