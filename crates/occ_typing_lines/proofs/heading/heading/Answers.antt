use Rattle.std.proofs.Common.{arith}
use Rattle.std.proofs.lemmas.Grind.{common_steps}
use Rattle.occ_typing_lines.proofs.Trees.{tree_rules}
use Rattle.occ_typing_lines.proofs.heading.heading.Goals as goal

pub returns-in-DataType-clause-faults : goal.returns-in-DataType-clause-faults
returns-in-DataType-clause-faults c = grind (arith, common_steps, tree_rules)

pub returns-in-DataType-clause-found : goal.returns-in-DataType-clause-found
returns-in-DataType-clause-found c = grind (arith, common_steps, tree_rules)

pub returns-in-DataType-clause-line : goal.returns-in-DataType-clause-line
returns-in-DataType-clause-line c = grind (arith, common_steps, tree_rules)

pub returns-in-Protocol-clause-faults : goal.returns-in-Protocol-clause-faults
returns-in-Protocol-clause-faults c = grind (arith, common_steps, tree_rules)

pub returns-in-Protocol-clause-found : goal.returns-in-Protocol-clause-found
returns-in-Protocol-clause-found c = grind (arith, common_steps, tree_rules)

pub returns-in-Protocol-clause-line : goal.returns-in-Protocol-clause-line
returns-in-Protocol-clause-line c = grind (arith, common_steps, tree_rules)

pub returns-in_ok-known-in-Procedure-clause-faults : goal.returns-in_ok-known-in-Procedure-clause-faults
returns-in_ok-known-in-Procedure-clause-faults c = grind (arith, common_steps, tree_rules)

pub returns-in_ok-known-in-Procedure-clause-found : goal.returns-in_ok-known-in-Procedure-clause-found
returns-in_ok-known-in-Procedure-clause-found c = grind (arith, common_steps, tree_rules)

pub returns-in_ok-known-in-Procedure-clause-line : goal.returns-in_ok-known-in-Procedure-clause-line
returns-in_ok-known-in-Procedure-clause-line c = grind (arith, common_steps, tree_rules)

pub returns-in_ok-new-in-Function-clause-faults : goal.returns-in_ok-new-in-Function-clause-faults
returns-in_ok-new-in-Function-clause-faults c = grind (arith, common_steps, tree_rules)

pub returns-in_ok-new-in-Function-clause-found : goal.returns-in_ok-new-in-Function-clause-found
returns-in_ok-new-in-Function-clause-found c = grind (arith, common_steps, tree_rules)

pub returns-in_ok-new-in-Function-clause-line : goal.returns-in_ok-new-in-Function-clause-line
returns-in_ok-new-in-Function-clause-line c = grind (arith, common_steps, tree_rules)
