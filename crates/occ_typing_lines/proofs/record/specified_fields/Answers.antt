use Rattle.std.proofs.Common.{arith}
use Rattle.std.proofs.lemmas.Grind.{common_steps}
use Rattle.occ_typing_lines.proofs.Trees.{tree_rules}
use Rattle.occ_typing_lines.proofs.record.specified_fields.Goals as goal

pub returns-in-Head-clause-faults : goal.returns-in-Head-clause-faults
returns-in-Head-clause-faults c = grind (arith, common_steps, tree_rules)

pub returns-in-Head-clause-fields : goal.returns-in-Head-clause-fields
returns-in-Head-clause-fields c = grind (arith, common_steps, tree_rules)

pub returns-in-Head-clause-names : goal.returns-in-Head-clause-names
returns-in-Head-clause-names c = grind (arith, common_steps, tree_rules)

pub returns-in-Line-clause-faults : goal.returns-in-Line-clause-faults
returns-in-Line-clause-faults c = grind (arith, common_steps, tree_rules)

pub returns-in-Line-clause-fields : goal.returns-in-Line-clause-fields
returns-in-Line-clause-fields c = grind (arith, common_steps, tree_rules)

pub returns-in-Line-clause-names : goal.returns-in-Line-clause-names
returns-in-Line-clause-names c = grind (arith, common_steps, tree_rules)
