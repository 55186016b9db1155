use Rattle.std.proofs.Common.{arith}
use Rattle.std.proofs.lemmas.Grind.{common_steps}
use Rattle.occ_base.proofs.Fronts.{front_rules}
use Rattle.occ_typing_statements.specs.Inputs.{plain_faults, plain_tree}
use Rattle.occ_typing_statements.proofs.inputs.plain.Goals as goal

pub returns-clause-faults : goal.returns-clause-faults
unfolding plain_faults plain_tree
returns-clause-faults c = grind (arith, common_steps, front_rules)

pub returns-clause-tree : goal.returns-clause-tree
unfolding plain_faults plain_tree
returns-clause-tree c = grind (arith, common_steps, front_rules)
