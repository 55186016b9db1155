use Rattle.std.proofs.Common.{arith}
use Rattle.std.proofs.lemmas.Grind.{common_steps}
use Rattle.occ_base.proofs.Fronts.{front_rules}
use Rattle.occ_typing_statements.proofs.sending.item_read.Goals as goal

pub returns-in_ok-array-in-Counted-clause-faults : goal.returns-in_ok-array-in-Counted-clause-faults
returns-in_ok-array-in-Counted-clause-faults c = grind (arith, common_steps, front_rules)

pub returns-in_ok-array-in-Counted-clause-item : goal.returns-in_ok-array-in-Counted-clause-item
returns-in_ok-array-in-Counted-clause-item c = grind (arith, common_steps, front_rules)

pub returns-in_ok-expression-in-Plain-clause-faults : goal.returns-in_ok-expression-in-Plain-clause-faults
returns-in_ok-expression-in-Plain-clause-faults c = grind (arith, common_steps, front_rules)

pub returns-in_ok-expression-in-Plain-clause-item : goal.returns-in_ok-expression-in-Plain-clause-item
returns-in_ok-expression-in-Plain-clause-item c = grind (arith, common_steps, front_rules)
