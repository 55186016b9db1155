use Rattle.std.proofs.Common.{arith}
use Rattle.std.proofs.lemmas.Grind.{common_steps}
use Rattle.occ_expr_operations.specs.Operations.{pair}
use Rattle.occ_expr_operations.specs.OpenExprs.{pair_open}
use Rattle.occ_expr_operations.proofs.operation.pair.Goals as goal

pub returns-in-ShiftLeft-clause-open_expr : goal.returns-in-ShiftLeft-clause-open_expr
unfolding pair pair_open
returns-in-ShiftLeft-clause-open_expr c = grind (arith, common_steps)

pub returns-in-ShiftLeft-clause-faults : goal.returns-in-ShiftLeft-clause-faults
unfolding pair pair_open
returns-in-ShiftLeft-clause-faults c = grind (arith, common_steps)

pub returns-in-ShiftLeft-clause-term : goal.returns-in-ShiftLeft-clause-term
unfolding pair pair_open
returns-in-ShiftLeft-clause-term c = grind (arith, common_steps)

pub returns-in-ShiftRight-clause-open_expr : goal.returns-in-ShiftRight-clause-open_expr
unfolding pair pair_open
returns-in-ShiftRight-clause-open_expr c = grind (arith, common_steps)

pub returns-in-ShiftRight-clause-faults : goal.returns-in-ShiftRight-clause-faults
unfolding pair pair_open
returns-in-ShiftRight-clause-faults c = grind (arith, common_steps)

pub returns-in-ShiftRight-clause-term : goal.returns-in-ShiftRight-clause-term
unfolding pair pair_open
returns-in-ShiftRight-clause-term c = grind (arith, common_steps)

pub returns-in_default : goal.returns-in_default
unfolding pair pair_open
returns-in_default c = grind (arith, common_steps)
