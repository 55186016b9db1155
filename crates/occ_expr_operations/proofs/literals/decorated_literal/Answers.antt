use Rattle.std.proofs.Common.{arith}
use Rattle.std.proofs.lemmas.Grind.{common_steps}
use Rattle.occ_expr_operations.specs.Literals.{decorated_literal}
use Rattle.occ_expr_operations.proofs.literals.decorated_literal.Goals as goal

pub returns-clause-faults : goal.returns-clause-faults
unfolding decorated_literal
returns-clause-faults c = grind (arith, common_steps)

pub returns-clause-kind : goal.returns-clause-kind
unfolding decorated_literal
returns-clause-kind c = grind (arith, common_steps)

pub returns-in_default-clause-faults : goal.returns-in_default-clause-faults
unfolding decorated_literal
returns-in_default-clause-faults c = grind (arith, common_steps)

pub returns-in_default-clause-kind : goal.returns-in_default-clause-kind
unfolding decorated_literal
returns-in_default-clause-kind c = grind (arith, common_steps)
