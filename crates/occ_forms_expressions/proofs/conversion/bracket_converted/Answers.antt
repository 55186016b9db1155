use Rattle.std.proofs.Common.{sym}
use Rattle.occ_forms_expressions.proofs.Conversions.{bracket_found, bracket_none, bracket_same}
use Rattle.occ_forms_expressions.proofs.conversion.bracket_converted.Goals as goal

pub returns-in_default-2-clause-only : goal.returns-in_default-2-clause-only
returns-in_default-2-clause-only c p o is narrows = bracket_none _ _ _ p o (rw c.in-Some.is at c.in_ok-operand.ensures) (sym (rw c.in_default-2.is at c.in_ok-operand-2.ensures)) is narrows

pub returns-clause-found : goal.returns-clause-found
returns-clause-found c = bracket_found _ _ _ _ _ _ _ c.name.view_is (rw c.in-Some.is at c.in_ok-operand.ensures) (sym (rw c.in-Some-2.is at c.in_ok-operand-2.ensures)) c.in_ok-new.ensures

pub returns-clause-only : goal.returns-clause-only
returns-clause-only c p o is narrows = bracket_same _ _ _ _ _ p _ _ o c.name.view_is (rw c.in-Some.is at c.in_ok-operand.ensures) (sym (rw c.in-Some-2.is at c.in_ok-operand-2.ensures)) c.in_ok-new.ensures is narrows
