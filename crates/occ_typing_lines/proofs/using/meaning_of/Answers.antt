use Rattle.std.proofs.Common.{arith}
use Rattle.std.proofs.lemmas.Grind.{common_steps}
use Rattle.occ_typing_lines.proofs.using.meaning_of.Goals as goal

pub returns-in-Process : goal.returns-in-Process
returns-in-Process c = grind (arith, common_steps)

pub returns-in_ok-results-in-Function : goal.returns-in_ok-results-in-Function
returns-in_ok-results-in-Function c = grind (arith, common_steps)
