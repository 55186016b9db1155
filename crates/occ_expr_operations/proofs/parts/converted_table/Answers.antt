use Rattle.std.proofs.Common.{arith}
use Rattle.std.proofs.lemmas.Grind.{common_steps}
use Rattle.occ_expr_operations.proofs.Views.{name_rules}
use Rattle.occ_expr_operations.proofs.parts.converted_table.Goals as goal

pub returns-clause-open_expr : goal.returns-clause-open_expr
returns-clause-open_expr c = grind (arith, common_steps, name_rules)

pub returns-clause-faults : goal.returns-clause-faults
returns-clause-faults c = grind (arith, common_steps, name_rules)

pub returns-clause-term : goal.returns-clause-term
returns-clause-term c = grind (arith, common_steps, name_rules)
