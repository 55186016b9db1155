use Rattle.occ_forms_expressions.proofs.Bracketing.{closed_all, no_bracketed, open_all}
use Rattle.occ_forms_expressions.proofs.bracketed.bracketed_expression.Goals as goal

pub returns-in_default-2-clause-only : goal.returns-in_default-2-clause-only
returns-in_default-2-clause-only g c = no_bracketed _ _ c.in-Some.ensures (rw c.in_default-2.is at c.in_ok-found.ensures.open) (rw c.in_default-2.is at c.in_ok-found.ensures.only)

pub returns-in-Open-clause-only : goal.returns-in-Open-clause-only
returns-in-Open-clause-only g c = open_all _ _ _ _ _ c.in-Some.ensures c.in-Open.is (rw c.in-Some-2.is at c.in_ok-found.ensures.open) (rw c.in-Some-2.is at c.in_ok-found.ensures.only) c.after_dimension.ensures.named c.after_dimension.ensures.builtin

pub returns-in-Closed-clause-only : goal.returns-in-Closed-clause-only
returns-in-Closed-clause-only g c = closed_all _ _ _ _ _ _ _ c.in-Some.ensures c.in-Closed.is (rw c.in-Some-2.is at c.in_ok-found.ensures.open) (rw c.in-Some-2.is at c.in_ok-found.ensures.only) c.after_brackets.ensures.operand c.after_brackets.ensures.named c.after_brackets.ensures.builtin
