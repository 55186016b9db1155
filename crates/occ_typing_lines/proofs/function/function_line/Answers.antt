use Rattle.std.proofs.Common.{arith}
use Rattle.std.proofs.lemmas.Grind.{common_steps}
use Rattle.occ_typing_lines.specs.Specifying.{function_meaning, function_form}
use Rattle.occ_typing_lines.proofs.function.function_line.Goals as goal

pub returns-clause-faults : goal.returns-clause-faults
unfolding function_meaning function_form
returns-clause-faults c = grind (arith, common_steps)

pub returns-clause-line : goal.returns-clause-line
unfolding function_meaning function_form
returns-clause-line c = grind (arith, common_steps)

pub returns-clause-scope : goal.returns-clause-scope
unfolding function_meaning function_form
returns-clause-scope c = grind (arith, common_steps)
