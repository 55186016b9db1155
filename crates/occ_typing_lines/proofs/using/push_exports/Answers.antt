use Rattle.std.proofs.Common.{arith}
use Rattle.std.proofs.lemmas.Grind.{common_steps}
use Rattle.occ_typing_lines.proofs.using.push_exports.Goals as goal

pub returns : goal.returns
returns c = grind (arith, common_steps)

pub loop-export-preserved : goal.loop-export-preserved
loop-export-preserved c = grind (arith, common_steps)
