use Rattle.std.proofs.Common.{arith}
use Rattle.std.proofs.lemmas.Grind.{common_steps}
use Rattle.occ_expr_operations.specs.Literals.{literal}
use Rattle.occ_expr_operations.proofs.literals.literal.Goals as goal

pub returns-in-Decimal-clause-faults : goal.returns-in-Decimal-clause-faults
unfolding literal
returns-in-Decimal-clause-faults c = grind (arith, common_steps)

pub returns-in-Decimal-clause-kind : goal.returns-in-Decimal-clause-kind
unfolding literal
returns-in-Decimal-clause-kind c = grind (arith, common_steps)

pub returns-in-Hexadecimal-clause-faults : goal.returns-in-Hexadecimal-clause-faults
unfolding literal
returns-in-Hexadecimal-clause-faults c = grind (arith, common_steps)

pub returns-in-Hexadecimal-clause-kind : goal.returns-in-Hexadecimal-clause-kind
unfolding literal
returns-in-Hexadecimal-clause-kind c = grind (arith, common_steps)

pub returns-in_ok-byte-in-Character-clause-faults : goal.returns-in_ok-byte-in-Character-clause-faults
unfolding literal
returns-in_ok-byte-in-Character-clause-faults c = grind (arith, common_steps)

pub returns-in_ok-byte-in-Character-clause-kind : goal.returns-in_ok-byte-in-Character-clause-kind
unfolding literal
returns-in_ok-byte-in-Character-clause-kind c = grind (arith, common_steps)

pub returns-in_ok-byte-in-String-clause-faults : goal.returns-in_ok-byte-in-String-clause-faults
unfolding literal
returns-in_ok-byte-in-String-clause-faults c = grind (arith, common_steps)

pub returns-in_ok-byte-in-String-clause-kind : goal.returns-in_ok-byte-in-String-clause-kind
unfolding literal
returns-in_ok-byte-in-String-clause-kind c = grind (arith, common_steps)
