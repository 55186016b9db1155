use Rattle.std.proofs.Common.{arith}
use Rattle.std.proofs.lemmas.Grind.{common_steps}
use Rattle.occ_typing_lines.proofs.using.shared_types.Goals as goal

pub returns : goal.returns
returns c = grind (arith, common_steps)

pub loop-of-preserved : goal.loop-of-preserved
loop-of-preserved c = grind (arith, common_steps)
