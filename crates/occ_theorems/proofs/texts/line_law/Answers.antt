use Rattle.std.proofs.Common.{◌≡◌, ◌∙◌, ◌≤◌, ◌<◌, inl, inr, Bool, true, false, ℕ, List, arith, refl, subst, sym}
use Rattle.std.specs.Prelude.{nat_le}
use Rattle.occ_forms.specs.Depth.{HasForm, HasNoForm, IsTooDeep, form_dimensions}
use Rattle.occ_forms.specs.Spelling.{form_tokens}
use Rattle.occ_forms.specs.declared.tree.Form.{Form}
use Rattle.occ_lines.specs.declared.token.Token.{Token}
use Rattle.occ_forms_expressions.specs.Depth.{most_open}
use Rattle.occ_theorems.proofs.texts.line_law.Goals as goal

-- what is not over 64 is within
within : (n : ℕ) → ((64 < n) → ⊥) → n ≤ 64
within n not_over = by (nat_le n 64) refl where
  by : (b : Bool) → nat_le n 64 ≡ b → n ≤ 64
  by true e = grind (arith, e)
  by false e = absurd (not_over (grind (arith, e)))

not_deep : ((a b : Form) → form_tokens a ≡ form_tokens b → a ≡ b) → (tokens : List Token) (form : Form) → HasForm tokens form → IsTooDeep tokens → ⊥
not_deep one tokens form has (inl many) = let few = has.few_open in omega (arith, few, many)
not_deep one tokens form has (inr deep) =
    let same : deep.0 ≡ form = one deep.0 form (sym deep.1 ∙ has.spelled) in
    let over : 64 < form_dimensions form = subst (λ (f : Form). 64 < form_dimensions f) same deep.2 in
    let few = has.few_dimensions in
    omega (arith, few, over)

not_both : (tokens : List Token) → IsTooDeep tokens → HasNoForm tokens → ⊥
not_both tokens (inl many) formless = let few = formless.few_open in omega (arith, few, many)
not_both tokens (inr deep) formless = formless.none deep.0 deep.1

pub returns-clause-deep : goal.returns-clause-deep
returns-clause-deep c = not_deep c.one_form_law.ensures

pub returns-clause-none : goal.returns-clause-none
returns-clause-none c = λ tokens form has formless. formless.none form has.spelled

pub returns-clause-fault : goal.returns-clause-fault
returns-clause-fault c = not_both

pub returns-clause-some : goal.returns-clause-some
returns-clause-some c = λ tokens none shallow.
    record {
      none = λ form spelled. none form (record { spelled = spelled; few_open = within (most_open 0 tokens) (λ h. shallow (inl h)); few_dimensions = within (form_dimensions form) (λ h. shallow (inr (form, spelled, h))) });
      few_open = within (most_open 0 tokens) (λ h. shallow (inl h));
    }
