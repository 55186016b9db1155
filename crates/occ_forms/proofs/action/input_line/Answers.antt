use Rattle.occ_forms.specs.declared.input.Received.TheVariants as re
use Rattle.occ_forms.specs.declared.tree.Action.TheVariants as ac
use Rattle.occ_forms.specs.declared.tree.Construct.TheVariants as co
use Rattle.occ_forms.specs.declared.tree.Form.TheVariants as fo
use Rattle.occ_forms.proofs.Receptions.{case_same, found_is, input_same, not_both, not_none}
use Rattle.occ_forms.proofs.action.input_line.Goals as goal

pub returns-in-Some-Input-clause-input : goal.returns-in-Some-Input-clause-input
returns-in-Some-Input-clause-input c x e = input_same (λ y. fo.Action (ac.Input y)) _ _ x (found_is _ _ _ c.in-Some-Input.is c.in-Some-Input.field-0-is) (c.in_ok-input.ensures.only (re.Input x) e)

pub returns-in-Some-Input-clause-case : goal.returns-in-Some-Input-clause-case
returns-in-Some-Input-clause-case c el e = not_both _ _ el (found_is _ _ _ c.in-Some-Input.is c.in-Some-Input.field-0-is) (c.in_ok-input.ensures.only (re.Case el) e)

pub returns-in-Some-Case-clause-input : goal.returns-in-Some-Case-clause-input
returns-in-Some-Case-clause-input c x e = not_both _ x _ (c.in_ok-input.ensures.only (re.Input x) e) (found_is _ _ _ c.in-Some-Case.is c.in-Some-Case.field-0-is)

pub returns-in-Some-Case-clause-case : goal.returns-in-Some-Case-clause-case
returns-in-Some-Case-clause-case c el e = case_same (λ y. fo.Construct (co.CaseInput y)) _ _ el (found_is _ _ _ c.in-Some-Case.is c.in-Some-Case.field-0-is) (c.in_ok-input.ensures.only (re.Case el) e)

pub returns-in-None-clause-input : goal.returns-in-None-clause-input
returns-in-None-clause-input c x e = not_none _ (re.Input x) c.in-None.is (c.in_ok-input.ensures.only (re.Input x) e)

pub returns-in-None-clause-case : goal.returns-in-None-clause-case
returns-in-None-clause-case c el e = not_none _ (re.Case el) c.in-None.is (c.in_ok-input.ensures.only (re.Case el) e)
