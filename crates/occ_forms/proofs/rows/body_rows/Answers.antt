use Rattle.std.proofs.Common.{inl, inr, refl, [], ◌∷◌}
use Rattle.occ_base.specs.declared.code.Code.TheVariants.{S1}
use Rattle.occ_forms.specs.Prepared.{IsFormed}
use Rattle.occ_forms.specs.declared.source.LineBody.TheVariants as held
use Rattle.occ_forms.specs.declared.tree.Action.TheVariants as a
use Rattle.occ_forms.specs.declared.tree.Form.TheVariants as f
use Rattle.occ_lines.specs.declared.text.Body.TheVariants as body
use Rattle.occ_lines.specs.declared.token.Token.TheVariants as t
use Rattle.occ_lines.specs.declared.token.Word.TheVariants as w
use Rattle.occ_forms.proofs.rows.body_rows.Goals as goal

no_fault : IsFormed (body.Tokens (t.Word w.Skip ∷ [])) (held.Fault S1) → ⊥
no_fault (inl h) = absurd cc
no_fault (inr h) = h.1.none (f.Action a.Skip) refl

pub returns-clause-no_form : goal.returns-clause-no_form
returns-clause-no_form c h = no_fault h
