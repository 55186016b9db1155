use Rattle.std.proofs.Common.{arith}
use Rattle.std.proofs.lemmas.Grind.{common_steps}
use Rattle.occ_typing_statements.specs.Inputs.{after_faults, after_tree}
use Rattle.occ_typing_statements.proofs.inputs.after.Goals as goal

pub returns-clause-faults : goal.returns-clause-faults
unfolding after_faults after_tree
returns-clause-faults c = grind (arith, common_steps)

pub returns-clause-tree : goal.returns-clause-tree
unfolding after_faults after_tree
returns-clause-tree c = grind (arith, common_steps)
