use Rattle.std.proofs.Common.{arith}
use Rattle.std.proofs.lemmas.Grind.{common_steps}
use Rattle.occ_base.proofs.Fronts.{front_rules}
use Rattle.occ_typing_statements.proofs.receiving.with_received.Goals as goal

pub returns-clause-givens : goal.returns-clause-givens
returns-clause-givens c = grind (arith, common_steps, front_rules)

pub returns-clause-trees : goal.returns-clause-trees
returns-clause-trees c = grind (arith, common_steps, front_rules)
