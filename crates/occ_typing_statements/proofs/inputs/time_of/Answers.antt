use Rattle.std.proofs.Common.{arith}
use Rattle.std.proofs.lemmas.Grind.{common_steps}
use Rattle.occ_typing_statements.proofs.Times.{time_rules}
use Rattle.occ_typing_statements.proofs.inputs.time_of.Goals as goal

pub returns-in_default : goal.returns-in_default
returns-in_default c = grind (arith, common_steps, time_rules)

pub returns : goal.returns
returns c = grind (arith, common_steps, time_rules)
