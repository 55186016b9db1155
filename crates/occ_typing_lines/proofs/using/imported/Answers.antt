use Rattle.std.proofs.Common.{arith}
use Rattle.std.proofs.lemmas.Grind.{common_steps}
use Rattle.occ_typing_lines.proofs.using.imported.Goals as goal

pub returns : goal.returns
returns c = grind (arith, common_steps)

pub loop-interface-preserved : goal.loop-interface-preserved
loop-interface-preserved c = grind (arith, common_steps)
