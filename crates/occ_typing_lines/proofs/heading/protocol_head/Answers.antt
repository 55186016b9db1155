use Rattle.std.proofs.Common.{arith}
use Rattle.std.proofs.lemmas.Grind.{common_steps}
use Rattle.occ_typing_lines.proofs.Trees.{tree_rules}
use Rattle.occ_typing_lines.proofs.heading.protocol_head.Goals as goal

pub returns-clause-faults : goal.returns-clause-faults
returns-clause-faults c = grind (arith, common_steps, tree_rules)

pub returns-clause-found : goal.returns-clause-found
returns-clause-found c = grind (arith, common_steps, tree_rules)

pub returns-clause-line : goal.returns-clause-line
returns-clause-line c = grind (arith, common_steps, tree_rules)
