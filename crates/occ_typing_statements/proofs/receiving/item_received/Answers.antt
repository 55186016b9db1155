use Rattle.std.proofs.Common.{arith}
use Rattle.std.proofs.lemmas.Grind.{common_steps}
use Rattle.occ_base.proofs.Fronts.{front_rules}
use Rattle.occ_typing_statements.proofs.receiving.item_received.Goals as goal

pub returns-in-Counted-clause-faults : goal.returns-in-Counted-clause-faults
returns-in-Counted-clause-faults c = grind (arith, common_steps, front_rules)

pub returns-in-Counted-clause-given : goal.returns-in-Counted-clause-given
returns-in-Counted-clause-given c = grind (arith, common_steps, front_rules)

pub returns-in-Counted-clause-tree : goal.returns-in-Counted-clause-tree
returns-in-Counted-clause-tree c = grind (arith, common_steps, front_rules)

pub returns-in-Plain-clause-faults : goal.returns-in-Plain-clause-faults
returns-in-Plain-clause-faults c = grind (arith, common_steps, front_rules)

pub returns-in-Plain-clause-given : goal.returns-in-Plain-clause-given
returns-in-Plain-clause-given c = grind (arith, common_steps, front_rules)

pub returns-in-Plain-clause-tree : goal.returns-in-Plain-clause-tree
returns-in-Plain-clause-tree c = grind (arith, common_steps, front_rules)
