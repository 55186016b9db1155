use Rattle.std.proofs.Common.{arith}
use Rattle.std.proofs.lemmas.Grind.{common_steps}
use Rattle.occ_typing_lines.proofs.Trees.{tree_rules}
use Rattle.occ_typing_lines.proofs.protocol.push_tag.Goals as goal

pub returns-clause-faults : goal.returns-clause-faults
returns-clause-faults c = grind (arith, common_steps, tree_rules)

pub returns-clause-names : goal.returns-clause-names
returns-clause-names c = grind (arith, common_steps, tree_rules)

pub returns-clause-tags : goal.returns-clause-tags
returns-clause-tags c = grind (arith, common_steps, tree_rules)
