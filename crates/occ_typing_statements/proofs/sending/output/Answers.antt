use Rattle.std.proofs.Common.{arith}
use Rattle.std.proofs.lemmas.Grind.{common_steps}
use Rattle.occ_typing_statements.specs.Sending.{output_faults, output_tree}
use Rattle.occ_typing_statements.proofs.sending.output.Goals as goal

pub returns-clause-faults : goal.returns-clause-faults
unfolding output_faults output_tree
returns-clause-faults c = grind (arith, common_steps)

pub returns-clause-tree : goal.returns-clause-tree
unfolding output_faults output_tree
returns-clause-tree c = grind (arith, common_steps)
