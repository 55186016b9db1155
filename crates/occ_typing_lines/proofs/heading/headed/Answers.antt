use Rattle.std.proofs.Common.{arith}
use Rattle.std.proofs.lemmas.Grind.{common_steps}
use Rattle.occ_typing_lines.proofs.Trees.{tree_rules}
use Rattle.occ_typing_lines.proofs.heading.headed.Goals as goal

pub returns : goal.returns
returns c = grind (arith, common_steps, tree_rules)
