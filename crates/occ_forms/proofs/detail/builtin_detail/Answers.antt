use Rattle.std.proofs.Common.{refl}
use Rattle.occ_forms.proofs.Details.{builtin_form_is, builtin_found, not_named, same_builtin, type_builtin}
use Rattle.occ_forms.proofs.detail.builtin_detail.Goals as goal

pub returns-in_default-clause-only : goal.returns-in_default-clause-only
returns-in_default-clause-only c = type_builtin _ (rw c.in_default.is at c.in_ok-form.ensures.only)

pub returns-in_default-form-clause-only : goal.returns-in_default-form-clause-only
returns-in_default-form-clause-only c ds b k ends e = let h = builtin_form_is _ _ _ (rw c.in-Some.is at c.in_ok-form.ensures.only) ds b k ends e in
    not_named _ _ ds _ b c.in_default-form.is h.0

pub returns-clause-found : goal.returns-clause-found
returns-clause-found c = builtin_found _ _ _ _ _ _ (rw c.in-Some.is at c.in_ok-form.ensures.found) c.in-Builtin.is refl

pub returns-clause-only : goal.returns-clause-only
returns-clause-only c ds b k ends e = let h = builtin_form_is _ _ _ (rw c.in-Some.is at c.in_ok-form.ensures.only) ds b k ends e in
    (same_builtin _ _ ds _ b _ c.in-Builtin.is refl h.0, h.1)
