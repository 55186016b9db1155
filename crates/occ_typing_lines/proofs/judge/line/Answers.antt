use Rattle.std.proofs.Common.{arith}
use Rattle.std.proofs.lemmas.Grind.{common_steps}
use Rattle.occ_typing_lines.proofs.Trees.{tree_rules}
use Rattle.occ_typing_lines.proofs.judge.line.Goals as goal

pub returns-in-Fault-clause-faults : goal.returns-in-Fault-clause-faults
returns-in-Fault-clause-faults c = grind (arith, common_steps, tree_rules)

pub returns-in-Fault-clause-found : goal.returns-in-Fault-clause-found
returns-in-Fault-clause-found c = grind (arith, common_steps, tree_rules)

pub returns-in-Fault-clause-line : goal.returns-in-Fault-clause-line
returns-in-Fault-clause-line c = grind (arith, common_steps, tree_rules)

pub returns-in-Fault-clause-scope : goal.returns-in-Fault-clause-scope
returns-in-Fault-clause-scope c = grind (arith, common_steps, tree_rules)

pub returns-in-Form-clause-faults : goal.returns-in-Form-clause-faults
returns-in-Form-clause-faults c = grind (arith, common_steps, tree_rules)

pub returns-in-Form-clause-found : goal.returns-in-Form-clause-found
returns-in-Form-clause-found c = grind (arith, common_steps, tree_rules)

pub returns-in-Form-clause-line : goal.returns-in-Form-clause-line
returns-in-Form-clause-line c = grind (arith, common_steps, tree_rules)

pub returns-in-Form-clause-scope : goal.returns-in-Form-clause-scope
returns-in-Form-clause-scope c = grind (arith, common_steps, tree_rules)

pub returns-in_ok-adds-in-Uses-clause-faults : goal.returns-in_ok-adds-in-Uses-clause-faults
returns-in_ok-adds-in-Uses-clause-faults c = grind (arith, common_steps, tree_rules)

pub returns-in_ok-adds-in-Uses-clause-found : goal.returns-in_ok-adds-in-Uses-clause-found
returns-in_ok-adds-in-Uses-clause-found c = grind (arith, common_steps, tree_rules)

pub returns-in_ok-adds-in-Uses-clause-line : goal.returns-in_ok-adds-in-Uses-clause-line
returns-in_ok-adds-in-Uses-clause-line c = grind (arith, common_steps, tree_rules)

pub returns-in_ok-adds-in-Uses-clause-scope : goal.returns-in_ok-adds-in-Uses-clause-scope
returns-in_ok-adds-in-Uses-clause-scope c = grind (arith, common_steps, tree_rules)
