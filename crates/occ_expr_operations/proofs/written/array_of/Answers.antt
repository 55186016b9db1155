use Rattle.std.proofs.Common.{arith}
use Rattle.std.proofs.lemmas.Grind.{common_steps}
use Rattle.occ_expr_operations.proofs.written.array_of.Goals as goal

pub returns : goal.returns
returns c = grind (arith, common_steps)

pub returns-in-Faulty : goal.returns-in-Faulty
returns-in-Faulty c = grind (arith, common_steps)
