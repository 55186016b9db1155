use Rattle.std.proofs.Common.{arith}
use Rattle.std.proofs.lemmas.Grind.{common_steps}
use Rattle.occ_typing_lines.proofs.action.action.Goals as goal

pub returns-in-Assignment-clause-faults : goal.returns-in-Assignment-clause-faults
returns-in-Assignment-clause-faults c = grind (arith, common_steps)

pub returns-in-Assignment-clause-form : goal.returns-in-Assignment-clause-form
returns-in-Assignment-clause-form c = grind (arith, common_steps)

pub returns-in-Input-clause-faults : goal.returns-in-Input-clause-faults
returns-in-Input-clause-faults c = grind (arith, common_steps)

pub returns-in-Input-clause-form : goal.returns-in-Input-clause-form
returns-in-Input-clause-form c = grind (arith, common_steps)

pub returns-in-Output-clause-faults : goal.returns-in-Output-clause-faults
returns-in-Output-clause-faults c = grind (arith, common_steps)

pub returns-in-Output-clause-form : goal.returns-in-Output-clause-form
returns-in-Output-clause-form c = grind (arith, common_steps)

pub returns-in-Skip-clause-faults : goal.returns-in-Skip-clause-faults
returns-in-Skip-clause-faults c = grind (arith, common_steps)

pub returns-in-Skip-clause-form : goal.returns-in-Skip-clause-form
returns-in-Skip-clause-form c = grind (arith, common_steps)

pub returns-in-Stop-clause-faults : goal.returns-in-Stop-clause-faults
returns-in-Stop-clause-faults c = grind (arith, common_steps)

pub returns-in-Stop-clause-form : goal.returns-in-Stop-clause-form
returns-in-Stop-clause-form c = grind (arith, common_steps)
