use Rattle.std.proofs.Common.{arith}
use Rattle.std.proofs.lemmas.Grind.{common_steps}
use Rattle.occ_typing_lines.proofs.Trees.{tree_rules}
use Rattle.occ_typing_lines.proofs.record.record_of.Goals as goal

pub returns-clause-fields : goal.returns-clause-fields
returns-clause-fields c = grind (arith, common_steps, tree_rules)

pub returns-clause-found : goal.returns-clause-found
returns-clause-found c = grind (arith, common_steps, tree_rules)

pub returns-clause-packing : goal.returns-clause-packing
returns-clause-packing c = grind (arith, common_steps, tree_rules)

pub returns-in_default-clause-fields : goal.returns-in_default-clause-fields
returns-in_default-clause-fields c = grind (arith, common_steps, tree_rules)

pub returns-in_default-clause-found : goal.returns-in_default-clause-found
returns-in_default-clause-found c = grind (arith, common_steps, tree_rules)

pub returns-in_default-clause-packing : goal.returns-in_default-clause-packing
returns-in_default-clause-packing c = grind (arith, common_steps, tree_rules)
