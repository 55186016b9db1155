use Rattle.std.proofs.Common.{arith}
use Rattle.std.proofs.lemmas.Grind.{common_steps}
use Rattle.occ_typing_statements.proofs.Operands.{operand_rules}
use Rattle.occ_typing_statements.proofs.sending.operand_as.Goals as goal

pub returns-in-Single-clause-faults : goal.returns-in-Single-clause-faults
returns-in-Single-clause-faults c = grind (arith, common_steps, operand_rules)

pub returns-in-Single-clause-kind : goal.returns-in-Single-clause-kind
returns-in-Single-clause-kind c = grind (arith, common_steps, operand_rules)

pub returns-in-Table-clause-faults : goal.returns-in-Table-clause-faults
returns-in-Table-clause-faults c = grind (arith, common_steps, operand_rules)

pub returns-in-Table-clause-kind : goal.returns-in-Table-clause-kind
returns-in-Table-clause-kind c = grind (arith, common_steps, operand_rules)
