use Rattle.std.proofs.Common.{[], None, refl}
use Rattle.occ_forms_expressions.specs.declared.bracket.Closing.TheVariants as cl
use Rattle.occ_forms_expressions.proofs.Closings.{closing_ends}
use Rattle.occ_forms_expressions.proofs.Following.{element_after, fitting, single_element, single_found, single_type, subscripts_fit, type_after}
use Rattle.occ_forms_expressions.proofs.naming.subscripted.Goals as goal

pub returns-in_default-clause-element : goal.returns-in_default-clause-element
returns-in_default-clause-element g c i es z k ends e = rw c.in_default.is at (c.requires.inner.only _ _ _ c.in_ok-first.ensures) i _ refl e

pub returns-in_default-clause-converted : goal.returns-in_default-clause-converted
returns-in_default-clause-converted g c i x p q k after operand narrows e = absurd (rw c.in_default.is at (c.requires.inner.only _ _ _ c.in_ok-first.ensures) i _ (closing_ends x k) e)

pub returns-in-Some-after_single-clause-found : goal.returns-in-Some-after_single-clause-found
returns-in-Some-after_single-clause-found g c = single_found _ _ _ _ _ _ (rw c.in-Some.is at (c.requires.inner.found _ _ _ c.in_ok-first.ensures)) c.in-Some-after_single.ensures.closed c.after_subscript.ensures.found

pub returns-in-Some-after_single-clause-element : goal.returns-in-Some-after_single-clause-element
returns-in-Some-after_single-clause-element g c = single_element _ _ _ _ _ _ (rw c.in-Some.is at (c.requires.inner.only _ _ _ c.in_ok-first.ensures)) c.in-Some-after_single.ensures.closed c.after_subscript.ensures.only

pub returns-in-Some-after_single-clause-converted : goal.returns-in-Some-after_single-clause-converted
returns-in-Some-after_single-clause-converted g c = single_type _ _ _ _ _ _ (rw c.in-Some.is at (c.requires.inner.only _ _ _ c.in_ok-first.ensures)) c.in-Some-after_single.ensures.closed c.in-Some-after_single.ensures.plain

pub returns-in_default-2-clause-element : goal.returns-in_default-2-clause-element
returns-in_default-2-clause-element g c i es z k ends e = let h = rw c.in-Some.is at (c.requires.inner.only _ _ _ c.in_ok-first.ensures) i _ refl e in
    rw c.in_default-2.is at c.in_ok-closing.ensures.only (cl.Items [] None) _ (subscripts_fit es z k ends) h.1

pub returns-in_default-2-clause-converted : goal.returns-in_default-2-clause-converted
returns-in_default-2-clause-converted g c i x p q k after operand narrows e = let h = rw c.in-Some.is at (c.requires.inner.only _ _ _ c.in_ok-first.ensures) i _ (closing_ends x k) e in
    absurd (rw c.in_default-2.is at c.in_ok-closing.ensures.only x k (fitting x k after) h.1)

pub returns-clause-element : goal.returns-clause-element
returns-clause-element g c = element_after _ _ _ _ _ _ _ (rw c.in-Some.is at (c.requires.inner.only _ _ _ c.in_ok-first.ensures)) (rw c.in-Some-2.is at c.in_ok-closing.ensures.only) c.after_index.ensures.element

pub returns-clause-converted : goal.returns-clause-converted
returns-clause-converted g c = type_after _ _ _ _ _ _ _ (rw c.in-Some.is at (c.requires.inner.only _ _ _ c.in_ok-first.ensures)) (rw c.in-Some-2.is at c.in_ok-closing.ensures.only) c.after_index.ensures.converted
