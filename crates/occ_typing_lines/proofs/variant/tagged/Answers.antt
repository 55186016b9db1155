use Rattle.std.proofs.Common.{arith}
use Rattle.std.proofs.lemmas.Grind.{common_steps}
use Rattle.occ_typing_lines.proofs.variant.tagged.Goals as goal

pub returns-in-Variants-clause-faults : goal.returns-in-Variants-clause-faults
returns-in-Variants-clause-faults c = grind (arith, common_steps)

pub returns-in-Variants-clause-line : goal.returns-in-Variants-clause-line
returns-in-Variants-clause-line c = grind (arith, common_steps)

pub returns-in_ok-report-in_default : goal.returns-in_ok-report-in_default
returns-in_ok-report-in_default c = grind (arith, common_steps)
