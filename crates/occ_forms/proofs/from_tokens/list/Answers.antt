use Rattle.occ_forms.proofs.SpecificationLists.{item_ends}
use Rattle.occ_forms.proofs.from_tokens.list.Goals as goal

pub returns-in_default-clause-only : goal.returns-in_default-clause-only
returns-in_default-clause-only g c x xs k ends none is =
    rw c.in_default.is at c.in_ok-first.ensures.only x _ (item_ends _ _ g.T.FromTokens.ends c.requires.apart xs k ends none) is

pub returns-in_default-2-clause-only : goal.returns-in_default-2-clause-only
returns-in_default-2-clause-only g c x xs k ends none is =
    let first = rw c.in-Some.is at c.in_ok-first.ensures.only x _ (item_ends _ _ g.T.FromTokens.ends c.requires.apart xs k ends none) is in
    rw c.in_default-2.is at c.in_ok-others.ensures.only xs k ends none first.1

pub returns-clause-only : goal.returns-clause-only
returns-clause-only g c x xs k ends none is =
    let first = rw c.in-Some.is at c.in_ok-first.ensures.only x _ (item_ends _ _ g.T.FromTokens.ends c.requires.apart xs k ends none) is in
    let others = rw c.in-Some-2.is at c.in_ok-others.ensures.only xs k ends none first.1 in
    (first.0, others.0, others.1)
