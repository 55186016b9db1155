use Rattle.std.proofs.Common.{arith}
use Rattle.std.proofs.lemmas.Grind.{common_steps}
use Rattle.occ_expr.proofs.walk.literal_operand.Goals as goal

pub returns-clause-open_expr : goal.returns-clause-open_expr
returns-clause-open_expr c = grind (arith, common_steps)

pub returns-clause-faults : goal.returns-clause-faults
returns-clause-faults c = grind (arith, common_steps)

pub returns-clause-term : goal.returns-clause-term
returns-clause-term c = grind (arith, common_steps)
