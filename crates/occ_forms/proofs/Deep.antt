-- A line is one of three: it has a form, it is too deep, or it has no form.
use Rattle.std.proofs.Common.{◌≡◌, inl, inr, sym, ap, arith, List}
use Rattle.occ_base.specs.declared.code.Code.{Code}
use Rattle.occ_base.specs.declared.code.Code.TheVariants as code
use Rattle.occ_lines.specs.declared.token.Token.{Token}
use Rattle.occ_lines.specs.declared.text.Body.TheVariants as body
use Rattle.occ_forms.specs.declared.source.LineBody.{LineBody}
use Rattle.occ_forms.specs.declared.source.LineBody.TheVariants as held
use Rattle.occ_forms.specs.declared.tree.Form.{Form}
use Rattle.occ_forms.specs.Depth.{HasForm, HasNoForm, IsTooDeep, form_dimensions}
use Rattle.occ_forms.specs.Prepared.{IsFormed}
use Rattle.occ_forms.specs.Spelling.{form_tokens}

-- the form of the line is known, and it is not too deep
pub form_no_deep : {Z : Type 0} (tokens : List Token) (form : Form) → HasForm tokens form → ((f : Form) → tokens ≡ form_tokens f → form ≡ f) → IsTooDeep tokens → Z
form_no_deep tokens form has one (inl open_many) = absurd (omega (arith, has.few_open, open_many))
form_no_deep tokens form has one (inr (f, spelled, many)) = absurd (omega (arith, has.few_dimensions, many, ap form_dimensions (one f spelled)))

pub deep_no_none : {Z : Type 0} (tokens : List Token) → IsTooDeep tokens → HasNoForm tokens → Z
deep_no_none tokens (inl open_many) none = absurd (omega (arith, none.few_open, open_many))
deep_no_none tokens (inr (f, spelled, many)) none = absurd (none.none f spelled)

pub form_only : (tokens : List Token) (form : Form) → HasForm tokens form → ((f : Form) → tokens ≡ form_tokens f → form ≡ f)
    → (other : LineBody) → IsFormed (body.Tokens tokens) other → other ≡ held.Form form
form_only tokens form has one (held.Form f) h = ap (λ (x : Form). held.Form x) (sym (one f h.spelled))
form_only tokens form has one (held.Include name) h = absurd h
form_only tokens form has one (held.Uses name list) h = absurd h
form_only tokens form has one (held.Fault fault) (inl h) = form_no_deep tokens form has one h.1
form_only tokens form has one (held.Fault fault) (inr h) = absurd (h.1.none form has.spelled)

pub none_only : (tokens : List Token) → HasNoForm tokens → (other : LineBody) → IsFormed (body.Tokens tokens) other → other ≡ held.Fault code.S1
none_only tokens none (held.Form f) h = absurd (none.none f h.spelled)
none_only tokens none (held.Include name) h = absurd h
none_only tokens none (held.Uses name list) h = absurd h
none_only tokens none (held.Fault fault) (inl h) = deep_no_none tokens h.1 none
none_only tokens none (held.Fault fault) (inr h) = ap (λ (x : Code). held.Fault x) h.0

-- of a line that is too deep no form is left that is not
pub deep_only : (tokens : List Token) → IsTooDeep tokens → ((f : Form) → HasForm tokens f → ⊥)
    → (other : LineBody) → IsFormed (body.Tokens tokens) other → other ≡ held.Fault code.S3
deep_only tokens deep none (held.Form f) h = absurd (none f h)
deep_only tokens deep none (held.Include name) h = absurd h
deep_only tokens deep none (held.Uses name list) h = absurd h
deep_only tokens deep none (held.Fault fault) (inl h) = ap (λ (x : Code). held.Fault x) h.0
deep_only tokens deep none (held.Fault fault) (inr h) = deep_no_none tokens deep h.1
