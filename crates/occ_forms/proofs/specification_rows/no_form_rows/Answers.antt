use Rattle.occ_forms.proofs.NoForm.{formal_without_val, inline_first, is_in_parens, value_channel}
use Rattle.occ_forms.proofs.specification_rows.no_form_rows.Goals as goal

pub returns-clause-inline_first : goal.returns-clause-inline_first
returns-clause-inline_first c x e = inline_first _ _ x (λ h. absurd cc) e

pub returns-clause-element_in_parens : goal.returns-clause-element_in_parens
returns-clause-element_in_parens c x e = is_in_parens _ _ x e

pub returns-clause-value_channel : goal.returns-clause-value_channel
returns-clause-value_channel c x e = value_channel _ _ x e

pub returns-clause-formal_without_val : goal.returns-clause-formal_without_val
returns-clause-formal_without_val c x e = formal_without_val _ _ x e
