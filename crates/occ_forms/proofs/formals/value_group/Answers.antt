use Rattle.occ_forms.proofs.Groups.{value_no_names, value_only}
use Rattle.occ_forms.proofs.formals.value_group.Goals as goal

pub returns-in_default-2-clause-only : goal.returns-in_default-2-clause-only
returns-in_default-2-clause-only c = value_no_names _ _ _ (rw c.in-Some.is at c.in_ok-form.ensures.only) (rw c.in_default-2.is at c.in_ok-first.ensures.only)

pub returns-clause-only : goal.returns-clause-only
returns-clause-only c = value_only _ _ _ _ _ _ (rw c.in-Some.is at c.in_ok-form.ensures.only) (rw c.in-Some-2.is at c.in_ok-first.ensures.only)
