use Rattle.occ_forms_expressions.proofs.Operands.{table_found, table_only}
use Rattle.occ_forms_expressions.proofs.operand.table.Goals as goal

pub returns-clause-found : goal.returns-clause-found
returns-clause-found g c = table_found _ _ _ _ _ _ _ c.in-Some.ensures c.in-Closed.is (rw c.in-Some-2.is at c.in_ok-found.ensures.found) (rw c.in-Some-3.is at c.in_ok-operand.ensures)

pub returns-clause-only : goal.returns-clause-only
returns-clause-only g c = table_only _ _ _ _ _ _ _ c.in-Some.ensures c.in-Closed.is (rw c.in-Some-2.is at c.in_ok-found.ensures.only) (rw c.in-Some-3.is at c.in_ok-operand.ensures)
