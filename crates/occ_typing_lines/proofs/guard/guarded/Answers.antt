use Rattle.std.proofs.Common.{arith}
use Rattle.std.proofs.lemmas.Grind.{common_steps}
use Rattle.occ_typing_lines.proofs.guard.guarded.Goals as goal

pub returns-in-Skip-clause-faults : goal.returns-in-Skip-clause-faults
returns-in-Skip-clause-faults c = grind (arith, common_steps)

pub returns-in-Skip-clause-role : goal.returns-in-Skip-clause-role
returns-in-Skip-clause-role c = grind (arith, common_steps)

pub returns-in-Skip-clause-tree : goal.returns-in-Skip-clause-tree
returns-in-Skip-clause-tree c = grind (arith, common_steps)

pub returns-in_ok-input-in-CaseInput-2-clause-faults : goal.returns-in_ok-input-in-CaseInput-2-clause-faults
returns-in_ok-input-in-CaseInput-2-clause-faults c = grind (arith, common_steps)

pub returns-in_ok-input-in-CaseInput-2-clause-role : goal.returns-in_ok-input-in-CaseInput-2-clause-role
returns-in_ok-input-in-CaseInput-2-clause-role c = grind (arith, common_steps)

pub returns-in_ok-input-in-CaseInput-2-clause-tree : goal.returns-in_ok-input-in-CaseInput-2-clause-tree
returns-in_ok-input-in-CaseInput-2-clause-tree c = grind (arith, common_steps)

pub returns-in_ok-tree-in-Input-clause-faults : goal.returns-in_ok-tree-in-Input-clause-faults
returns-in_ok-tree-in-Input-clause-faults c = grind (arith, common_steps)

pub returns-in_ok-tree-in-Input-clause-role : goal.returns-in_ok-tree-in-Input-clause-role
returns-in_ok-tree-in-Input-clause-role c = grind (arith, common_steps)

pub returns-in_ok-tree-in-Input-clause-tree : goal.returns-in_ok-tree-in-Input-clause-tree
returns-in_ok-tree-in-Input-clause-tree c = grind (arith, common_steps)
