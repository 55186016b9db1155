use Rattle.std.proofs.Common.{arith}
use Rattle.std.proofs.lemmas.Grind.{common_steps}
use Rattle.occ_typing_lines.proofs.line.specifying.Goals as goal

pub returns : goal.returns
returns c = grind (arith, common_steps)
