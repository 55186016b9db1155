use Rattle.std.proofs.Common.{arith}
use Rattle.std.proofs.lemmas.Grind.{common_steps}
use Rattle.occ_expr_operations.specs.Written.{array_after}
use Rattle.occ_expr.proofs.walk.named_type.Goals as goal

pub returns-clause-faults : goal.returns-clause-faults
unfolding array_after
returns-clause-faults c = grind (arith, common_steps)

pub returns-clause-found : goal.returns-clause-found
unfolding array_after
returns-clause-found c = grind (arith, common_steps)
