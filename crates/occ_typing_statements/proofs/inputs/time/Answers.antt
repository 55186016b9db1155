use Rattle.std.proofs.Common.{arith}
use Rattle.std.proofs.lemmas.Grind.{common_steps}
use Rattle.occ_expr.specs.Trees.{int_tree}
use Rattle.occ_typing_statements.specs.Inputs.{time_faults}
use Rattle.occ_typing_statements.proofs.inputs.time.Goals as goal

pub returns-clause-faults : goal.returns-clause-faults
unfolding time_faults int_tree
returns-clause-faults c = grind (arith, common_steps)

pub returns-clause-tree : goal.returns-clause-tree
unfolding time_faults int_tree
returns-clause-tree c = grind (arith, common_steps)
