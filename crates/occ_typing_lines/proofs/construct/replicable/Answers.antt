use Rattle.std.proofs.Common.{arith}
use Rattle.std.proofs.lemmas.Grind.{common_steps}
use Rattle.occ_typing_lines.proofs.construct.replicable.Goals as goal

pub returns-in-None-clause-faults : goal.returns-in-None-clause-faults
returns-in-None-clause-faults c = grind (arith, common_steps)

pub returns-in-None-clause-line : goal.returns-in-None-clause-line
returns-in-None-clause-line c = grind (arith, common_steps)

pub returns-in_ok-enters-in-Some-clause-faults : goal.returns-in_ok-enters-in-Some-clause-faults
returns-in_ok-enters-in-Some-clause-faults c = grind (arith, common_steps)

pub returns-in_ok-enters-in-Some-clause-line : goal.returns-in_ok-enters-in-Some-clause-line
returns-in_ok-enters-in-Some-clause-line c = grind (arith, common_steps)
