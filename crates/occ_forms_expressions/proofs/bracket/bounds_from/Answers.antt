use Rattle.occ_forms_expressions.proofs.BoundsRead.{from_for_found, from_for_only, from_found, from_only, no_count, no_end, no_from}
use Rattle.occ_forms_expressions.proofs.bracket.bounds_from.Goals as goal

pub returns-in_default-clause-only : goal.returns-in_default-clause-only
returns-in_default-clause-only g c = no_from _ (rw c.in_default.is at (c.requires.inner.only _ _ _ c.in_ok-from.ensures))

pub returns-in-Some-after-clause-found : goal.returns-in-Some-after-clause-found
returns-in-Some-after-clause-found g c = from_found _ _ _ _ _ (rw c.in-Some.is at (c.requires.inner.found _ _ _ c.in_ok-from.ensures)) c.in_ok-from-2.ensures c.in-Some-after.ensures

pub returns-in-Some-after-clause-only : goal.returns-in-Some-after-clause-only
returns-in-Some-after-clause-only g c = from_only _ _ _ _ _ (rw c.in-Some.is at (c.requires.inner.only _ _ _ c.in_ok-from.ensures)) c.in_ok-from-2.ensures c.in-Some-after.ensures

pub returns-in_default-after_word-clause-only : goal.returns-in_default-after_word-clause-only
returns-in_default-after_word-clause-only g c = no_end _ _ _ (rw c.in-Some.is at (c.requires.inner.only _ _ _ c.in_ok-from.ensures)) c.in_default-after.ensures c.in_default-after_word.ensures

pub returns-in_default-2-clause-only : goal.returns-in_default-2-clause-only
returns-in_default-2-clause-only g c = no_count _ _ _ _ (rw c.in-Some.is at (c.requires.inner.only _ _ _ c.in_ok-from.ensures)) c.in_default-after.ensures c.in-Some-after_word.ensures (rw c.in_default-2.is at c.in_ok-count.ensures.only)

pub returns-clause-found : goal.returns-clause-found
returns-clause-found g c = from_for_found _ _ _ _ _ _ _ _ (rw c.in-Some.is at (c.requires.inner.found _ _ _ c.in_ok-from.ensures)) c.in_ok-from-2.ensures c.in-Some-after_word.ensures (rw c.in-Some-2.is at c.in_ok-count.ensures.found) c.in_ok-count-2.ensures

pub returns-clause-only : goal.returns-clause-only
returns-clause-only g c = from_for_only _ _ _ _ _ _ _ _ (rw c.in-Some.is at (c.requires.inner.only _ _ _ c.in_ok-from.ensures)) c.in_ok-from-2.ensures c.in_default-after.ensures c.in-Some-after_word.ensures (rw c.in-Some-2.is at c.in_ok-count.ensures.only) c.in_ok-count-2.ensures
