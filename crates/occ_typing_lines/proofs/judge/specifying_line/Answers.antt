use Rattle.std.proofs.Common.{arith}
use Rattle.std.proofs.lemmas.Grind.{common_steps}
use Rattle.occ_typing_lines.proofs.Trees.{tree_rules}
use Rattle.occ_typing_lines.proofs.judge.specifying_line.Goals as goal

pub returns-in-Head-clause-faults : goal.returns-in-Head-clause-faults
returns-in-Head-clause-faults c = grind (arith, common_steps, tree_rules)

pub returns-in-Head-clause-found : goal.returns-in-Head-clause-found
returns-in-Head-clause-found c = grind (arith, common_steps, tree_rules)

pub returns-in-Head-clause-line : goal.returns-in-Head-clause-line
returns-in-Head-clause-line c = grind (arith, common_steps, tree_rules)

pub returns-in-Head-clause-scope : goal.returns-in-Head-clause-scope
returns-in-Head-clause-scope c = grind (arith, common_steps, tree_rules)

pub returns-in-Line-clause-faults : goal.returns-in-Line-clause-faults
returns-in-Line-clause-faults c = grind (arith, common_steps, tree_rules)

pub returns-in-Line-clause-found : goal.returns-in-Line-clause-found
returns-in-Line-clause-found c = grind (arith, common_steps, tree_rules)

pub returns-in-Line-clause-line : goal.returns-in-Line-clause-line
returns-in-Line-clause-line c = grind (arith, common_steps, tree_rules)

pub returns-in-Line-clause-scope : goal.returns-in-Line-clause-scope
returns-in-Line-clause-scope c = grind (arith, common_steps, tree_rules)
