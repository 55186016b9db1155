use Rattle.occ_forms_expressions.proofs.Lists.{following, after_same, shorter_after}
use Rattle.occ_forms_expressions.proofs.Many.{fails, goes_on, is_done}
use Rattle.occ_forms.proofs.SpecificationLists.{list_within}
use Rattle.occ_forms.proofs.from_tokens.more.Goals as goal

pub returns-in_default-2-clause-only : goal.returns-in_default-2-clause-only
returns-in_default-2-clause-only g c xs k ends none is = fails _ _ _ (list_within _ _ _ c.requires.apart) _ _ _ c.loop-begun.invariant (λ h. h.no_more _ c.in-Some.ensures)
    (λ y j inside e. rw c.in_default-2.is at c.in_ok-item.ensures.only y j inside (after_same _ _ _ _ c.in-Some.ensures e)) xs k (record { ends = ends; no_more = none }) is

pub loop-begun-preserved : goal.loop-begun-preserved
loop-begun-preserved g c = rw c.in_ok-push.ensures.ok (goes_on _ _ _ (list_within _ _ _ c.requires.apart) _ _ _ _ _ c.loop-begun.invariant
    (following _ _ _ _ c.in-Some.ensures (rw c.in-Some-2.is at c.in_ok-item.ensures.found))
    (shorter_after _ _ _ _ c.in-Some.ensures (rw c.in-Some-2.is at c.in_ok-item.ensures.shorter)) (λ h. h.no_more _ c.in-Some.ensures)
    (λ y k ends e. rw c.in-Some-2.is at c.in_ok-item.ensures.only y k ends (after_same _ _ _ _ c.in-Some.ensures e)))

pub returns-clause-only : goal.returns-clause-only
returns-clause-only g c xs k ends none is = is_done _ g.T.FromTokens.ends _ (list_within _ _ g.T.FromTokens.ends c.requires.apart) _ _ _ c.loop-begun.invariant (λ y j inside e. c.in_default.ensures _ e) xs k (record { ends = ends; no_more = none }) is
