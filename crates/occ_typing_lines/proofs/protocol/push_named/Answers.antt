use Rattle.std.proofs.Common.{arith}
use Rattle.std.proofs.lemmas.Grind.{common_steps}
use Rattle.occ_typing_lines.proofs.Trees.{tree_rules}
use Rattle.occ_typing_lines.proofs.protocol.push_named.Goals as goal

pub returns-in-None-clause-faults : goal.returns-in-None-clause-faults
returns-in-None-clause-faults c = grind (arith, common_steps, tree_rules)

pub returns-in-None-clause-names : goal.returns-in-None-clause-names
returns-in-None-clause-names c = grind (arith, common_steps, tree_rules)

pub returns-in-None-clause-tags : goal.returns-in-None-clause-tags
returns-in-None-clause-tags c = grind (arith, common_steps, tree_rules)

pub returns-in-Some-clause-faults : goal.returns-in-Some-clause-faults
returns-in-Some-clause-faults c = grind (arith, common_steps, tree_rules)

pub returns-in-Some-clause-names : goal.returns-in-Some-clause-names
returns-in-Some-clause-names c = grind (arith, common_steps, tree_rules)

pub returns-in-Some-clause-tags : goal.returns-in-Some-clause-tags
returns-in-Some-clause-tags c = grind (arith, common_steps, tree_rules)
