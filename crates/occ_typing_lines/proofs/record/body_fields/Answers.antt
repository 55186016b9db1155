use Rattle.std.proofs.Common.{arith}
use Rattle.std.proofs.lemmas.Grind.{common_steps}
use Rattle.occ_typing_lines.proofs.Trees.{tree_rules}
use Rattle.occ_typing_lines.proofs.record.body_fields.Goals as goal

pub returns-in-Fault-clause-faults : goal.returns-in-Fault-clause-faults
returns-in-Fault-clause-faults c = grind (arith, common_steps, tree_rules)

pub returns-in-Fault-clause-fields : goal.returns-in-Fault-clause-fields
returns-in-Fault-clause-fields c = grind (arith, common_steps, tree_rules)

pub returns-in-Fault-clause-names : goal.returns-in-Fault-clause-names
returns-in-Fault-clause-names c = grind (arith, common_steps, tree_rules)

pub returns-in-Form-clause-faults : goal.returns-in-Form-clause-faults
returns-in-Form-clause-faults c = grind (arith, common_steps, tree_rules)

pub returns-in-Form-clause-fields : goal.returns-in-Form-clause-fields
returns-in-Form-clause-fields c = grind (arith, common_steps, tree_rules)

pub returns-in-Form-clause-names : goal.returns-in-Form-clause-names
returns-in-Form-clause-names c = grind (arith, common_steps, tree_rules)

pub returns-in-Uses-clause-faults : goal.returns-in-Uses-clause-faults
returns-in-Uses-clause-faults c = grind (arith, common_steps, tree_rules)

pub returns-in-Uses-clause-fields : goal.returns-in-Uses-clause-fields
returns-in-Uses-clause-fields c = grind (arith, common_steps, tree_rules)

pub returns-in-Uses-clause-names : goal.returns-in-Uses-clause-names
returns-in-Uses-clause-names c = grind (arith, common_steps, tree_rules)
