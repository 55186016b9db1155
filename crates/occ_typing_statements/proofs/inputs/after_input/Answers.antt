use Rattle.std.proofs.Common.{arith}
use Rattle.std.proofs.lemmas.Grind.{common_steps}
use Rattle.occ_typing_statements.proofs.inputs.after_input.Goals as goal

pub returns : goal.returns
returns c = grind (arith, common_steps)
