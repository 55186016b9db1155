use Rattle.occ_forms.proofs.Outputs.{counted_item, no_array, no_item, plain_item}
use Rattle.occ_forms.proofs.item.OutputItemFromTokens.read.Goals as goal

pub returns-in_default-clause-only : goal.returns-in_default-clause-only
returns-in_default-clause-only c = no_item _ (rw c.in_default.is at c.in_ok-first.ensures.only) (rw c.in_default.is at c.in_ok-first.ensures.run) (rw c.in_default.is at c.in_ok-first.ensures.most)

pub returns-in_default-after-clause-only : goal.returns-in_default-after-clause-only
returns-in_default-after-clause-only c = plain_item _ _ _ (rw c.in-Some.is at c.in_ok-first.ensures.only) (rw c.in-Some.is at c.in_ok-first.ensures.run) (rw c.in-Some.is at c.in_ok-first.ensures.most) c.in_default-after.ensures

pub returns-in_default-2-clause-only : goal.returns-in_default-2-clause-only
returns-in_default-2-clause-only c = no_array _ _ _ _ (rw c.in-Some.is at c.in_ok-first.ensures.only) (rw c.in-Some.is at c.in_ok-first.ensures.run) (rw c.in-Some.is at c.in_ok-first.ensures.most) c.in-Some-after.ensures (rw c.in_default-2.is at c.in_ok-array.ensures.only)

pub returns-clause-only : goal.returns-clause-only
returns-clause-only c = rw c.in_ok-count.ensures (rw c.in_ok-array-2.ensures (counted_item _ _ _ _ _ _ (rw c.in-Some.is at c.in_ok-first.ensures.only) (rw c.in-Some.is at c.in_ok-first.ensures.run) (rw c.in-Some.is at c.in_ok-first.ensures.most) c.in-Some-after.ensures (rw c.in-Some-2.is at c.in_ok-array.ensures.only)))
