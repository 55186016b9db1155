use Rattle.std.proofs.Common.{arith}
use Rattle.std.proofs.lemmas.Grind.{common_steps}
use Rattle.occ_base.proofs.Fronts.{front_rules}
use Rattle.occ_typing_statements.proofs.sending.table_as.Goals as goal

pub returns-in-None-clause-faults : goal.returns-in-None-clause-faults
returns-in-None-clause-faults c = grind (arith, common_steps, front_rules)

pub returns-in-None-clause-kind : goal.returns-in-None-clause-kind
returns-in-None-clause-kind c = grind (arith, common_steps, front_rules)

pub returns-in_ok-array-in-Some-clause-faults : goal.returns-in_ok-array-in-Some-clause-faults
returns-in_ok-array-in-Some-clause-faults c = grind (arith, common_steps, front_rules)

pub returns-in_ok-array-in-Some-clause-kind : goal.returns-in_ok-array-in-Some-clause-kind
returns-in_ok-array-in-Some-clause-kind c = grind (arith, common_steps, front_rules)
