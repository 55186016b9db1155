use Rattle.std.proofs.Common.{arith}
use Rattle.std.proofs.lemmas.Grind.{common_steps}
use Rattle.occ_typing_lines.specs.Specifying.{function_faults}
use Rattle.occ_typing_lines.proofs.function.function_reported.Goals as goal

pub returns-clause-faults : goal.returns-clause-faults
unfolding function_faults
returns-clause-faults c = grind (arith, common_steps)

pub returns-clause-faulty : goal.returns-clause-faulty
unfolding function_faults
returns-clause-faulty c = grind (arith, common_steps)

pub returns-clause-heading : goal.returns-clause-heading
unfolding function_faults
returns-clause-heading c = grind (arith, common_steps)

pub returns-clause-scope : goal.returns-clause-scope
unfolding function_faults
returns-clause-scope c = grind (arith, common_steps)

pub returns-clause-trees : goal.returns-clause-trees
unfolding function_faults
returns-clause-trees c = grind (arith, common_steps)
