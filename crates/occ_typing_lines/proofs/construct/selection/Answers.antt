use Rattle.std.proofs.Common.{arith}
use Rattle.std.proofs.lemmas.Grind.{common_steps}
use Rattle.occ_typing_lines.proofs.construct.selection.Goals as goal

pub returns-clause-role : goal.returns-clause-role
returns-clause-role c = grind (arith, common_steps)

pub returns-clause-form : goal.returns-clause-form
returns-clause-form c = grind (arith, common_steps)

pub returns-clause-faults : goal.returns-clause-faults
returns-clause-faults c = grind (arith, common_steps)
