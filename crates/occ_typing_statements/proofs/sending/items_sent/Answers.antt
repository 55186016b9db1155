use Rattle.std.proofs.Common.{arith}
use Rattle.std.proofs.lemmas.Grind.{common_steps}
use Rattle.occ_base.proofs.Fronts.{front_rules}
use Rattle.occ_typing_statements.proofs.sending.items_sent.Goals as goal

pub returns-clause-faults : goal.returns-clause-faults
returns-clause-faults c = grind (arith, common_steps, front_rules)

pub returns-clause-givens : goal.returns-clause-givens
returns-clause-givens c = grind (arith, common_steps, front_rules)

pub returns-clause-trees : goal.returns-clause-trees
returns-clause-trees c = grind (arith, common_steps, front_rules)

pub returns-in_default-clause-faults : goal.returns-in_default-clause-faults
returns-in_default-clause-faults c = grind (arith, common_steps, front_rules)

pub returns-in_default-clause-givens : goal.returns-in_default-clause-givens
returns-in_default-clause-givens c = grind (arith, common_steps, front_rules)

pub returns-in_default-clause-trees : goal.returns-in_default-clause-trees
returns-in_default-clause-trees c = grind (arith, common_steps, front_rules)

pub loop-want-preserved : goal.loop-want-preserved
loop-want-preserved c = grind (arith, common_steps, front_rules)
