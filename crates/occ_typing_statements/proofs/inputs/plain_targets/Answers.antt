use Rattle.std.proofs.Common.{arith}
use Rattle.std.proofs.lemmas.Grind.{common_steps}
use Rattle.occ_base.proofs.Fronts.{front_rules}
use Rattle.occ_typing_statements.proofs.inputs.plain_targets.Goals as goal

pub returns-clause-faults : goal.returns-clause-faults
returns-clause-faults c = grind (arith, common_steps, front_rules)

pub returns-clause-targets : goal.returns-clause-targets
returns-clause-targets c = grind (arith, common_steps, front_rules)
