use Rattle.std.proofs.Common.{Some}
use Rattle.occ_forms.proofs.Details.{builtin_right, element_right}
use Rattle.occ_forms.proofs.detail.DetailFromTokens.read.Goals as goal

pub returns-in-Some-2-clause-only : goal.returns-in-Some-2-clause-only
returns-in-Some-2-clause-only c = element_right _ (Some c.in-Some-2.found) (record { array = rw c.in_default.is at c.in_ok-found.ensures.array; counted = rw c.in_default.is at c.in_ok-found.ensures.counted })
    (rw c.in-Some-2.is at c.in_ok-found-2.ensures.begins) (rw c.in-Some-2.is at c.in_ok-found-2.ensures.element) (rw c.in-Some-2.is at c.in_ok-found-2.ensures.counted)

pub returns-clause-only : goal.returns-clause-only
returns-clause-only c = builtin_right _ _ (record { array = rw c.in_default.is at c.in_ok-found.ensures.array; counted = rw c.in_default.is at c.in_ok-found.ensures.counted })
    (rw c.in_default-2.is at c.in_ok-found-2.ensures.element) (rw c.in_default-2.is at c.in_ok-found-2.ensures.counted) c.builtin_detail.ensures.only
