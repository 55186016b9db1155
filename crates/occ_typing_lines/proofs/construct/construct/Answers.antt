use Rattle.std.proofs.Common.{arith}
use Rattle.std.proofs.lemmas.Grind.{common_steps}
use Rattle.occ_typing_lines.proofs.construct.construct.Goals as goal

pub returns-in-Replicable-clause-faults : goal.returns-in-Replicable-clause-faults
returns-in-Replicable-clause-faults c = grind (arith, common_steps)

pub returns-in-Replicable-clause-line : goal.returns-in-Replicable-clause-line
returns-in-Replicable-clause-line c = grind (arith, common_steps)

pub returns-in_ok-role-in-Case-clause-faults : goal.returns-in_ok-role-in-Case-clause-faults
returns-in_ok-role-in-Case-clause-faults c = grind (arith, common_steps)

pub returns-in_ok-role-in-Case-clause-line : goal.returns-in_ok-role-in-Case-clause-line
returns-in_ok-role-in-Case-clause-line c = grind (arith, common_steps)

pub returns-in_ok-role-in-CaseInput-clause-faults : goal.returns-in_ok-role-in-CaseInput-clause-faults
returns-in_ok-role-in-CaseInput-clause-faults c = grind (arith, common_steps)

pub returns-in_ok-role-in-CaseInput-clause-line : goal.returns-in_ok-role-in-CaseInput-clause-line
returns-in_ok-role-in-CaseInput-clause-line c = grind (arith, common_steps)

pub returns-in_ok-tree-in-While-clause-faults : goal.returns-in_ok-tree-in-While-clause-faults
returns-in_ok-tree-in-While-clause-faults c = grind (arith, common_steps)

pub returns-in_ok-tree-in-While-clause-line : goal.returns-in_ok-tree-in-While-clause-line
returns-in_ok-tree-in-While-clause-line c = grind (arith, common_steps)
