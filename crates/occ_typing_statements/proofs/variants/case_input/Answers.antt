use Rattle.std.proofs.Common.{arith}
use Rattle.std.proofs.lemmas.Grind.{common_steps}
use Rattle.occ_typing_statements.specs.Inputs.{case_faults}
use Rattle.occ_typing_statements.specs.Variants.{begun}
use Rattle.occ_typing_statements.proofs.variants.case_input.Goals as goal

pub returns-clause-faults : goal.returns-clause-faults
unfolding case_faults begun
returns-clause-faults c = grind (arith, common_steps)

pub returns-clause-input : goal.returns-clause-input
unfolding case_faults begun
returns-clause-input c = grind (arith, common_steps)

pub returns-clause-tree : goal.returns-clause-tree
unfolding case_faults begun
returns-clause-tree c = grind (arith, common_steps)
