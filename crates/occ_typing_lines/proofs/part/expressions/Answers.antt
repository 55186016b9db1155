use Rattle.std.proofs.Common.{arith}
use Rattle.std.proofs.lemmas.Grind.{common_steps}
use Rattle.occ_typing_lines.proofs.part.expressions.Goals as goal

pub returns-in-Function-clause-faults : goal.returns-in-Function-clause-faults
returns-in-Function-clause-faults c = grind (arith, common_steps)

pub returns-in-Function-clause-line : goal.returns-in-Function-clause-line
returns-in-Function-clause-line c = grind (arith, common_steps)

pub returns-in-Process-clause-faults : goal.returns-in-Process-clause-faults
returns-in-Process-clause-faults c = grind (arith, common_steps)

pub returns-in-Process-clause-line : goal.returns-in-Process-clause-line
returns-in-Process-clause-line c = grind (arith, common_steps)

pub returns-in-Selection-clause-faults : goal.returns-in-Selection-clause-faults
returns-in-Selection-clause-faults c = grind (arith, common_steps)

pub returns-in-Selection-clause-line : goal.returns-in-Selection-clause-line
returns-in-Selection-clause-line c = grind (arith, common_steps)

pub returns-in-Variants-clause-faults : goal.returns-in-Variants-clause-faults
returns-in-Variants-clause-faults c = grind (arith, common_steps)

pub returns-in-Variants-clause-line : goal.returns-in-Variants-clause-line
returns-in-Variants-clause-line c = grind (arith, common_steps)

pub returns-in_ok-report-in_default-clause-faults : goal.returns-in_ok-report-in_default-clause-faults
returns-in_ok-report-in_default-clause-faults c = grind (arith, common_steps)

pub returns-in_ok-report-in_default-clause-line : goal.returns-in_ok-report-in_default-clause-line
returns-in_ok-report-in_default-clause-line c = grind (arith, common_steps)

pub returns-in_ok-tree-in-Conditional-clause-faults : goal.returns-in_ok-tree-in-Conditional-clause-faults
returns-in_ok-tree-in-Conditional-clause-faults c = grind (arith, common_steps)

pub returns-in_ok-tree-in-Conditional-clause-line : goal.returns-in_ok-tree-in-Conditional-clause-line
returns-in_ok-tree-in-Conditional-clause-line c = grind (arith, common_steps)
