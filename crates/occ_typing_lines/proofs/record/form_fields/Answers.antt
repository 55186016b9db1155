use Rattle.std.proofs.Common.{arith}
use Rattle.std.proofs.lemmas.Grind.{common_steps}
use Rattle.occ_typing_lines.proofs.Trees.{tree_rules}
use Rattle.occ_typing_lines.proofs.record.form_fields.Goals as goal

pub returns-in-Action-clause-faults : goal.returns-in-Action-clause-faults
returns-in-Action-clause-faults c = grind (arith, common_steps, tree_rules)

pub returns-in-Action-clause-fields : goal.returns-in-Action-clause-fields
returns-in-Action-clause-fields c = grind (arith, common_steps, tree_rules)

pub returns-in-Action-clause-names : goal.returns-in-Action-clause-names
returns-in-Action-clause-names c = grind (arith, common_steps, tree_rules)

pub returns-in-Close-clause-faults : goal.returns-in-Close-clause-faults
returns-in-Close-clause-faults c = grind (arith, common_steps, tree_rules)

pub returns-in-Close-clause-fields : goal.returns-in-Close-clause-fields
returns-in-Close-clause-fields c = grind (arith, common_steps, tree_rules)

pub returns-in-Close-clause-names : goal.returns-in-Close-clause-names
returns-in-Close-clause-names c = grind (arith, common_steps, tree_rules)

pub returns-in-Construct-clause-faults : goal.returns-in-Construct-clause-faults
returns-in-Construct-clause-faults c = grind (arith, common_steps, tree_rules)

pub returns-in-Construct-clause-fields : goal.returns-in-Construct-clause-fields
returns-in-Construct-clause-fields c = grind (arith, common_steps, tree_rules)

pub returns-in-Construct-clause-names : goal.returns-in-Construct-clause-names
returns-in-Construct-clause-names c = grind (arith, common_steps, tree_rules)

pub returns-in-Expressions-clause-faults : goal.returns-in-Expressions-clause-faults
returns-in-Expressions-clause-faults c = grind (arith, common_steps, tree_rules)

pub returns-in-Expressions-clause-fields : goal.returns-in-Expressions-clause-fields
returns-in-Expressions-clause-fields c = grind (arith, common_steps, tree_rules)

pub returns-in-Expressions-clause-names : goal.returns-in-Expressions-clause-names
returns-in-Expressions-clause-names c = grind (arith, common_steps, tree_rules)

pub returns-in-Part-clause-faults : goal.returns-in-Part-clause-faults
returns-in-Part-clause-faults c = grind (arith, common_steps, tree_rules)

pub returns-in-Part-clause-fields : goal.returns-in-Part-clause-fields
returns-in-Part-clause-fields c = grind (arith, common_steps, tree_rules)

pub returns-in-Part-clause-names : goal.returns-in-Part-clause-names
returns-in-Part-clause-names c = grind (arith, common_steps, tree_rules)

pub returns-in-Specified-clause-faults : goal.returns-in-Specified-clause-faults
returns-in-Specified-clause-faults c = grind (arith, common_steps, tree_rules)

pub returns-in-Specified-clause-fields : goal.returns-in-Specified-clause-fields
returns-in-Specified-clause-fields c = grind (arith, common_steps, tree_rules)

pub returns-in-Specified-clause-names : goal.returns-in-Specified-clause-names
returns-in-Specified-clause-names c = grind (arith, common_steps, tree_rules)

pub returns-in-Tagged-clause-faults : goal.returns-in-Tagged-clause-faults
returns-in-Tagged-clause-faults c = grind (arith, common_steps, tree_rules)

pub returns-in-Tagged-clause-fields : goal.returns-in-Tagged-clause-fields
returns-in-Tagged-clause-fields c = grind (arith, common_steps, tree_rules)

pub returns-in-Tagged-clause-names : goal.returns-in-Tagged-clause-names
returns-in-Tagged-clause-names c = grind (arith, common_steps, tree_rules)
