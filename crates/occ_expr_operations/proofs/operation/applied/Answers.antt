use Rattle.std.proofs.Common.{arith}
use Rattle.std.proofs.lemmas.Grind.{common_steps}
use Rattle.occ_expr_operations.specs.Operations.{applied}
use Rattle.occ_expr_operations.specs.OpenExprs.{applied_open}
use Rattle.occ_expr_operations.proofs.operation.applied.Goals as goal

pub returns-in-BitNot-clause-open_expr : goal.returns-in-BitNot-clause-open_expr
unfolding applied applied_open
returns-in-BitNot-clause-open_expr c = grind (arith, common_steps)

pub returns-in-BitNot-clause-faults : goal.returns-in-BitNot-clause-faults
unfolding applied applied_open
returns-in-BitNot-clause-faults c = grind (arith, common_steps)

pub returns-in-BitNot-clause-term : goal.returns-in-BitNot-clause-term
unfolding applied applied_open
returns-in-BitNot-clause-term c = grind (arith, common_steps)

pub returns-in-BitNotWord-clause-open_expr : goal.returns-in-BitNotWord-clause-open_expr
unfolding applied applied_open
returns-in-BitNotWord-clause-open_expr c = grind (arith, common_steps)

pub returns-in-BitNotWord-clause-faults : goal.returns-in-BitNotWord-clause-faults
unfolding applied applied_open
returns-in-BitNotWord-clause-faults c = grind (arith, common_steps)

pub returns-in-BitNotWord-clause-term : goal.returns-in-BitNotWord-clause-term
unfolding applied applied_open
returns-in-BitNotWord-clause-term c = grind (arith, common_steps)

pub returns-in-Minus-clause-open_expr : goal.returns-in-Minus-clause-open_expr
unfolding applied applied_open
returns-in-Minus-clause-open_expr c = grind (arith, common_steps)

pub returns-in-Minus-clause-faults : goal.returns-in-Minus-clause-faults
unfolding applied applied_open
returns-in-Minus-clause-faults c = grind (arith, common_steps)

pub returns-in-Minus-clause-term : goal.returns-in-Minus-clause-term
unfolding applied applied_open
returns-in-Minus-clause-term c = grind (arith, common_steps)

pub returns-in-Negate-clause-open_expr : goal.returns-in-Negate-clause-open_expr
unfolding applied applied_open
returns-in-Negate-clause-open_expr c = grind (arith, common_steps)

pub returns-in-Negate-clause-faults : goal.returns-in-Negate-clause-faults
unfolding applied applied_open
returns-in-Negate-clause-faults c = grind (arith, common_steps)

pub returns-in-Negate-clause-term : goal.returns-in-Negate-clause-term
unfolding applied applied_open
returns-in-Negate-clause-term c = grind (arith, common_steps)

pub returns-in-Not-clause-open_expr : goal.returns-in-Not-clause-open_expr
unfolding applied applied_open
returns-in-Not-clause-open_expr c = grind (arith, common_steps)

pub returns-in-Not-clause-faults : goal.returns-in-Not-clause-faults
unfolding applied applied_open
returns-in-Not-clause-faults c = grind (arith, common_steps)

pub returns-in-Not-clause-term : goal.returns-in-Not-clause-term
unfolding applied applied_open
returns-in-Not-clause-term c = grind (arith, common_steps)

pub returns-in-Size-clause-open_expr : goal.returns-in-Size-clause-open_expr
unfolding applied applied_open
returns-in-Size-clause-open_expr c = grind (arith, common_steps)

pub returns-in-Size-clause-faults : goal.returns-in-Size-clause-faults
unfolding applied applied_open
returns-in-Size-clause-faults c = grind (arith, common_steps)

pub returns-in-Size-clause-term : goal.returns-in-Size-clause-term
unfolding applied applied_open
returns-in-Size-clause-term c = grind (arith, common_steps)
