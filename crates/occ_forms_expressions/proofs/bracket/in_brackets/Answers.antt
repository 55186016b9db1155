use Rattle.std.proofs.lemmas.Grind.{common_steps}
use Rattle.std.proofs.Common.{arith}
use Rattle.occ_forms_expressions.proofs.Closings.{both, closing_ends, no_closed}
use Rattle.occ_forms_expressions.proofs.bracket.in_brackets.Goals as goal

pub returns-in-Some-clause-only : goal.returns-in-Some-clause-only
returns-in-Some-clause-only g c e x k fit q = absurd (no_closed _ _ c.in-Some.ensures e x k q)

pub returns-in_default-2-clause-only : goal.returns-in_default-2-clause-only
returns-in_default-2-clause-only g c e x k fit q = rw c.in_default-2.is at (c.requires.inner.only _ _ _ c.in_ok-first.ensures) e _ (closing_ends x k) q

pub returns-in_default-3-clause-only : goal.returns-in_default-3-clause-only
returns-in_default-3-clause-only g c e x k fit q = let h = rw c.in-Some-2.is at (c.requires.inner.only _ _ _ c.in_ok-first.ensures) e _ (closing_ends x k) q in
    rw c.in_default-3.is at c.in_ok-closing.ensures.only x k fit h.1

pub returns-clause-only : goal.returns-clause-only
returns-clause-only g c e x k fit q = let h = rw c.in-Some-2.is at (c.requires.inner.only _ _ _ c.in_ok-first.ensures) e _ (closing_ends x k) q in
    let m = rw c.in-Some-3.is at c.in_ok-closing.ensures.only x k fit h.1 in (both _ _ _ _ h.0 m.0, m.1)

pub returns-clause-found : goal.returns-clause-found
returns-clause-found g c = grind (arith, common_steps)

pub returns-clause-shorter : goal.returns-clause-shorter
returns-clause-shorter g c = grind (arith, common_steps)

pub returns-in-Some-clause-found : goal.returns-in-Some-clause-found
returns-in-Some-clause-found g c = grind (arith, common_steps)

pub returns-in-Some-clause-shorter : goal.returns-in-Some-clause-shorter
returns-in-Some-clause-shorter g c = grind (arith, common_steps)
