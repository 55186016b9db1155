use Rattle.std.proofs.Common.{ap, ◌∙◌}
use Rattle.occ_forms_expressions.specs.Spelling.{expr_then}
use Rattle.occ_forms_expressions.proofs.Lists.{after_same}
use Rattle.occ_forms_expressions.proofs.list.closed.Goals as goal

pub returns-in_default-clause-only : goal.returns-in_default-clause-only
returns-in_default-clause-only g c e k q = rw c.in_default.is at (c.requires.inner.only _ _ _ c.in_ok-found.ensures) e _ (c.requires.end k) q

pub returns-in_default-after-clause-only : goal.returns-in_default-after-clause-only
returns-in_default-after-clause-only g c e k q = let h = rw c.in-Some.is at (c.requires.inner.only _ _ _ c.in_ok-found.ensures) e _ (c.requires.end k) q in
    c.in_default-after.ensures k h.1

pub returns-clause-found : goal.returns-clause-found
returns-clause-found g c = rw c.in-Some.is at (c.requires.inner.found _ _ _ c.in_ok-found.ensures) ∙ ap (expr_then _) c.in-Some-after.ensures

pub returns-clause-only : goal.returns-clause-only
returns-clause-only g c e k q = let h = rw c.in-Some.is at (c.requires.inner.only _ _ _ c.in_ok-found.ensures) e _ (c.requires.end k) q in
    (h.0, after_same _ _ _ _ c.in-Some-after.ensures h.1)
