use Rattle.occ_forms.proofs.Groups.{no_plain_names, no_plain_type, no_value, plain_only, value_group_only}
use Rattle.occ_forms.proofs.formals.FormalGroupFromTokens.read.Goals as goal

pub returns-in_default-2-clause-only : goal.returns-in_default-2-clause-only
returns-in_default-2-clause-only c = no_value _ _ c.in-Some.ensures (rw c.in_default-2.is at c.in_ok-group.ensures.only)

pub returns-in-Some-clause-only : goal.returns-in-Some-clause-only
returns-in-Some-clause-only c = value_group_only _ _ _ _ c.in-Some.ensures (rw c.in-Some-2.is at c.in_ok-group.ensures.only)

pub returns-in_default-3-clause-only : goal.returns-in_default-3-clause-only
returns-in_default-3-clause-only c = no_plain_type _ c.in_default.ensures (rw c.in_default-3.is at c.in_ok-form.ensures.only)

pub returns-in_default-4-clause-only : goal.returns-in_default-4-clause-only
returns-in_default-4-clause-only c = no_plain_names _ _ _ c.in_default.ensures (rw c.in-Some-3.is at c.in_ok-form.ensures.only) (rw c.in_default-4.is at c.in_ok-first.ensures.only)

pub returns-clause-only : goal.returns-clause-only
returns-clause-only c = plain_only _ _ _ _ _ _ c.in_default.ensures (rw c.in-Some-3.is at c.in_ok-form.ensures.only) (rw c.in-Some-4.is at c.in_ok-first.ensures.only)
