use Rattle.std.proofs.Common.{arith}
use Rattle.std.proofs.lemmas.Grind.{common_steps}
use Rattle.occ_typing_lines.proofs.Trees.{tree_rules}
use Rattle.occ_typing_lines.proofs.protocol.body_tag.Goals as goal

pub returns-in-Fault-clause-faults : goal.returns-in-Fault-clause-faults
returns-in-Fault-clause-faults c = grind (arith, common_steps, tree_rules)

pub returns-in-Fault-clause-names : goal.returns-in-Fault-clause-names
returns-in-Fault-clause-names c = grind (arith, common_steps, tree_rules)

pub returns-in-Fault-clause-tags : goal.returns-in-Fault-clause-tags
returns-in-Fault-clause-tags c = grind (arith, common_steps, tree_rules)

pub returns-in-Form-clause-faults : goal.returns-in-Form-clause-faults
returns-in-Form-clause-faults c = grind (arith, common_steps, tree_rules)

pub returns-in-Form-clause-names : goal.returns-in-Form-clause-names
returns-in-Form-clause-names c = grind (arith, common_steps, tree_rules)

pub returns-in-Form-clause-tags : goal.returns-in-Form-clause-tags
returns-in-Form-clause-tags c = grind (arith, common_steps, tree_rules)

pub returns-in-Uses-clause-faults : goal.returns-in-Uses-clause-faults
returns-in-Uses-clause-faults c = grind (arith, common_steps, tree_rules)

pub returns-in-Uses-clause-names : goal.returns-in-Uses-clause-names
returns-in-Uses-clause-names c = grind (arith, common_steps, tree_rules)

pub returns-in-Uses-clause-tags : goal.returns-in-Uses-clause-tags
returns-in-Uses-clause-tags c = grind (arith, common_steps, tree_rules)
