use Rattle.std.proofs.Common.{arith}
use Rattle.std.proofs.lemmas.Grind.{common_steps}
use Rattle.occ_base.proofs.Fronts.{front_rules}
use Rattle.occ_typing_statements.specs.Inputs.{tagged_faults, tagged_tree}
use Rattle.occ_typing_statements.proofs.inputs.tagged.Goals as goal

pub returns-clause-faults : goal.returns-clause-faults
unfolding tagged_faults tagged_tree
returns-clause-faults c = grind (arith, common_steps, front_rules)

pub returns-clause-tree : goal.returns-clause-tree
unfolding tagged_faults tagged_tree
returns-clause-tree c = grind (arith, common_steps, front_rules)
