use Rattle.std.proofs.Common.{arith}
use Rattle.std.proofs.lemmas.Grind.{common_steps}
use Rattle.occ_expr_operations.proofs.written.limited.Goals as goal

pub returns-clause-faults : goal.returns-clause-faults
returns-clause-faults c = grind (arith, common_steps)

pub returns-clause-found : goal.returns-clause-found
returns-clause-found c = grind (arith, common_steps)

pub returns-in_default-clause-faults : goal.returns-in_default-clause-faults
returns-in_default-clause-faults c = grind (arith, common_steps)

pub returns-in_default-clause-found : goal.returns-in_default-clause-found
returns-in_default-clause-found c = grind (arith, common_steps)

pub returns-then-is_too_large-clause-faults : goal.returns-then-is_too_large-clause-faults
returns-then-is_too_large-clause-faults c = grind (arith, common_steps)

pub returns-then-is_too_large-clause-found : goal.returns-then-is_too_large-clause-found
returns-then-is_too_large-clause-found c = grind (arith, common_steps)
