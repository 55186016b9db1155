use Rattle.std.proofs.Common.{arith}
use Rattle.std.proofs.lemmas.Grind.{common_steps}
use Rattle.occ_base.proofs.Fronts.{front_rules}
use Rattle.occ_typing_statements.proofs.receiving.counted_target.Goals as goal

pub returns : goal.returns
returns c = grind (arith, common_steps, front_rules)
