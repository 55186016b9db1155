use Rattle.std.proofs.Common.{arith}
use Rattle.std.proofs.lemmas.Grind.{common_steps}
use Rattle.occ_typing_tables.proofs.selection.no_part.Goals as goal

pub returns-clause-kind : goal.returns-clause-kind
returns-clause-kind c = grind (arith, common_steps)

pub returns-clause-faults : goal.returns-clause-faults
returns-clause-faults c = grind (arith, common_steps)
