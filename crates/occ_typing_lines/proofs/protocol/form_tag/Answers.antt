use Rattle.std.proofs.Common.{arith}
use Rattle.std.proofs.lemmas.Grind.{common_steps}
use Rattle.occ_typing_lines.proofs.Trees.{tree_rules}
use Rattle.occ_typing_lines.proofs.protocol.form_tag.Goals as goal

pub returns-in-Action-clause-faults : goal.returns-in-Action-clause-faults
returns-in-Action-clause-faults c = grind (arith, common_steps, tree_rules)

pub returns-in-Action-clause-names : goal.returns-in-Action-clause-names
returns-in-Action-clause-names c = grind (arith, common_steps, tree_rules)

pub returns-in-Action-clause-tags : goal.returns-in-Action-clause-tags
returns-in-Action-clause-tags c = grind (arith, common_steps, tree_rules)

pub returns-in-Close-clause-faults : goal.returns-in-Close-clause-faults
returns-in-Close-clause-faults c = grind (arith, common_steps, tree_rules)

pub returns-in-Close-clause-names : goal.returns-in-Close-clause-names
returns-in-Close-clause-names c = grind (arith, common_steps, tree_rules)

pub returns-in-Close-clause-tags : goal.returns-in-Close-clause-tags
returns-in-Close-clause-tags c = grind (arith, common_steps, tree_rules)

pub returns-in-Construct-clause-faults : goal.returns-in-Construct-clause-faults
returns-in-Construct-clause-faults c = grind (arith, common_steps, tree_rules)

pub returns-in-Construct-clause-names : goal.returns-in-Construct-clause-names
returns-in-Construct-clause-names c = grind (arith, common_steps, tree_rules)

pub returns-in-Construct-clause-tags : goal.returns-in-Construct-clause-tags
returns-in-Construct-clause-tags c = grind (arith, common_steps, tree_rules)

pub returns-in-Expressions-clause-faults : goal.returns-in-Expressions-clause-faults
returns-in-Expressions-clause-faults c = grind (arith, common_steps, tree_rules)

pub returns-in-Expressions-clause-names : goal.returns-in-Expressions-clause-names
returns-in-Expressions-clause-names c = grind (arith, common_steps, tree_rules)

pub returns-in-Expressions-clause-tags : goal.returns-in-Expressions-clause-tags
returns-in-Expressions-clause-tags c = grind (arith, common_steps, tree_rules)

pub returns-in-Part-clause-faults : goal.returns-in-Part-clause-faults
returns-in-Part-clause-faults c = grind (arith, common_steps, tree_rules)

pub returns-in-Part-clause-names : goal.returns-in-Part-clause-names
returns-in-Part-clause-names c = grind (arith, common_steps, tree_rules)

pub returns-in-Part-clause-tags : goal.returns-in-Part-clause-tags
returns-in-Part-clause-tags c = grind (arith, common_steps, tree_rules)

pub returns-in-Specified-clause-faults : goal.returns-in-Specified-clause-faults
returns-in-Specified-clause-faults c = grind (arith, common_steps, tree_rules)

pub returns-in-Specified-clause-names : goal.returns-in-Specified-clause-names
returns-in-Specified-clause-names c = grind (arith, common_steps, tree_rules)

pub returns-in-Specified-clause-tags : goal.returns-in-Specified-clause-tags
returns-in-Specified-clause-tags c = grind (arith, common_steps, tree_rules)

pub returns-in-Tagged-clause-faults : goal.returns-in-Tagged-clause-faults
returns-in-Tagged-clause-faults c = grind (arith, common_steps, tree_rules)

pub returns-in-Tagged-clause-names : goal.returns-in-Tagged-clause-names
returns-in-Tagged-clause-names c = grind (arith, common_steps, tree_rules)

pub returns-in-Tagged-clause-tags : goal.returns-in-Tagged-clause-tags
returns-in-Tagged-clause-tags c = grind (arith, common_steps, tree_rules)
