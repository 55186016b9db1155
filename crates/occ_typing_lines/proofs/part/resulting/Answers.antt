use Rattle.std.proofs.Common.{arith}
use Rattle.std.proofs.lemmas.Grind.{common_steps}
use Rattle.occ_typing_lines.proofs.part.resulting.Goals as goal

pub returns-in_default : goal.returns-in_default
returns-in_default c = grind (arith, common_steps)

pub returns-in_ok-trees-in-Function-clause-faults : goal.returns-in_ok-trees-in-Function-clause-faults
returns-in_ok-trees-in-Function-clause-faults c = grind (arith, common_steps)

pub returns-in_ok-trees-in-Function-clause-line : goal.returns-in_ok-trees-in-Function-clause-line
returns-in_ok-trees-in-Function-clause-line c = grind (arith, common_steps)
