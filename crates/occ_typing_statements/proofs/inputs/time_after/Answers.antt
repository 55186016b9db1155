use Rattle.std.proofs.Common.{arith}
use Rattle.std.proofs.lemmas.Grind.{common_steps}
use Rattle.occ_typing_statements.proofs.inputs.time_after.Goals as goal

pub returns-clause-faults : goal.returns-clause-faults
returns-clause-faults c = grind (arith, common_steps)

pub returns-clause-tree : goal.returns-clause-tree
returns-clause-tree c = grind (arith, common_steps)
