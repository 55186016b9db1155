use Rattle.std.proofs.Common.{arith}
use Rattle.std.proofs.lemmas.Grind.{common_steps}
use Rattle.occ_typing_tables.proofs.selection.from_for.Goals as goal

pub returns-then-is_faulty-clause-kind : goal.returns-then-is_faulty-clause-kind
returns-then-is_faulty-clause-kind c = grind (arith, common_steps)

pub returns-then-is_faulty-clause-faults : goal.returns-then-is_faulty-clause-faults
returns-then-is_faulty-clause-faults c = grind (arith, common_steps)

pub returns-clause-kind : goal.returns-clause-kind
returns-clause-kind c = grind (arith, common_steps)

pub returns-clause-faults : goal.returns-clause-faults
returns-clause-faults c = grind (arith, common_steps)
