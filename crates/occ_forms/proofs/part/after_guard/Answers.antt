use Rattle.occ_forms.proofs.Receptions.{found_is, guarded_case, guarded_input, guarded_none}
use Rattle.occ_forms.proofs.part.after_guard.Goals as goal

pub returns-in-Some-Input-clause-only : goal.returns-in-Some-Input-clause-only
returns-in-Some-Input-clause-only c = guarded_input _ _ _ c.in_default.ensures c.in_ok-input.ensures.only (found_is _ _ _ c.in-Some-Input.is c.in-Some-Input.field-0-is)

pub returns-in-Some-Case-clause-only : goal.returns-in-Some-Case-clause-only
returns-in-Some-Case-clause-only c = guarded_case _ _ _ c.in_default.ensures c.in_ok-input.ensures.only (found_is _ _ _ c.in-Some-Case.is c.in-Some-Case.field-0-is)

pub returns-in-None-clause-only : goal.returns-in-None-clause-only
returns-in-None-clause-only c x e = absurd (guarded_none _ _ c.in_default.ensures c.in_ok-input.ensures.only c.in-None.is x e)
