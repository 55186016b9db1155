use Rattle.std.proofs.Common.{arith}
use Rattle.std.proofs.lemmas.Grind.{common_steps}
use Rattle.occ_base.proofs.Fronts.{front_rules}
use Rattle.occ_typing_statements.proofs.sending.operand_under.Goals as goal

pub returns-in-Nothing-clause-faults : goal.returns-in-Nothing-clause-faults
returns-in-Nothing-clause-faults c = grind (arith, common_steps, front_rules)

pub returns-in-Nothing-clause-kind : goal.returns-in-Nothing-clause-kind
returns-in-Nothing-clause-kind c = grind (arith, common_steps, front_rules)

pub returns-in-Of-clause-faults : goal.returns-in-Of-clause-faults
returns-in-Of-clause-faults c = grind (arith, common_steps, front_rules)

pub returns-in-Of-clause-kind : goal.returns-in-Of-clause-kind
returns-in-Of-clause-kind c = grind (arith, common_steps, front_rules)

pub returns-in_ok-hidden-in-Hidden-clause-faults : goal.returns-in_ok-hidden-in-Hidden-clause-faults
returns-in_ok-hidden-in-Hidden-clause-faults c = grind (arith, common_steps, front_rules)

pub returns-in_ok-hidden-in-Hidden-clause-kind : goal.returns-in_ok-hidden-in-Hidden-clause-kind
returns-in_ok-hidden-in-Hidden-clause-kind c = grind (arith, common_steps, front_rules)
