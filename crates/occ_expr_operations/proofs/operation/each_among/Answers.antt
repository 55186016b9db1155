use Rattle.std.proofs.Common.{arith}
use Rattle.std.proofs.lemmas.Grind.{common_steps}
use Rattle.occ_expr_operations.proofs.operation.each_among.Goals as goal

pub returns-clause-faults : goal.returns-clause-faults
returns-clause-faults c = grind (arith, common_steps)

pub returns-clause-kinds : goal.returns-clause-kinds
returns-clause-kinds c = grind (arith, common_steps)

pub loop-term-preserved : goal.loop-term-preserved
loop-term-preserved c = grind (arith, common_steps)
