use Rattle.occ_forms_expressions.specs.Reading.{IsEnd, IsEndOfItems}
use Rattle.occ_forms_expressions.specs.Spelling.{next_item_of}
use Rattle.occ_forms_expressions.proofs.Lists.{following, after_same, item_within, shorter_after}
use Rattle.occ_forms_expressions.proofs.Many.{fails, goes_on, is_done}
use Rattle.occ_forms_expressions.proofs.list.more_items.Goals as goal

pub returns-in_default-2-clause-only : goal.returns-in_default-2-clause-only
returns-in_default-2-clause-only g c = fails next_item_of IsEnd IsEndOfItems item_within _ _ _ c.loop-begun.invariant (λ h. h.no_comma _ c.in-Some.ensures)
    (λ y k ends e. rw c.in_default-2.is at (c.requires.inner.only _ _ _ c.in_ok-item.ensures) y k ends (after_same _ _ _ _ c.in-Some.ensures e))

pub loop-begun-preserved : goal.loop-begun-preserved
loop-begun-preserved g c = rw c.in_ok-push.ensures.ok (goes_on next_item_of IsEnd IsEndOfItems item_within _ _ _ _ _ c.loop-begun.invariant
    (following _ _ _ _ c.in-Some.ensures (rw c.in-Some-2.is at (c.requires.inner.found _ _ _ c.in_ok-item.ensures)))
    (shorter_after _ _ _ _ c.in-Some.ensures (rw c.in-Some-2.is at (c.requires.inner.shorter _ _ _ c.in_ok-item.ensures))) (λ h. h.no_comma _ c.in-Some.ensures)
    (λ y k ends e. rw c.in-Some-2.is at (c.requires.inner.only _ _ _ c.in_ok-item.ensures) y k ends (after_same _ _ _ _ c.in-Some.ensures e)))

pub returns-clause-only : goal.returns-clause-only
returns-clause-only g c = is_done next_item_of IsEnd IsEndOfItems item_within _ _ _ c.loop-begun.invariant (λ y k ends e. c.in_default.ensures _ e)
