use Rattle.std.proofs.Common.{arith}
use Rattle.std.proofs.lemmas.Grind.{common_steps}
use Rattle.occ_expr_operations.specs.Literals.{literal}
use Rattle.occ_expr.proofs.walk.literal_more.Goals as goal

pub returns-in-Decimal-clause-open_exprs : goal.returns-in-Decimal-clause-open_exprs
unfolding literal
returns-in-Decimal-clause-open_exprs c = grind (arith, common_steps)

pub returns-in-Decimal-clause-faults : goal.returns-in-Decimal-clause-faults
unfolding literal
returns-in-Decimal-clause-faults c = grind (arith, common_steps)

pub returns-in-Decimal-clause-terms : goal.returns-in-Decimal-clause-terms
unfolding literal
returns-in-Decimal-clause-terms c = grind (arith, common_steps)

pub returns-in_ok-reading-in_default : goal.returns-in_ok-reading-in_default
unfolding literal
returns-in_ok-reading-in_default c = grind (arith, common_steps)
