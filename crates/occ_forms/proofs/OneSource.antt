-- A text has one list of lines.
use Rattle.std.proofs.Common.{◌≡◌, ◌⊎◌, ℕ, List, [], ◌∷◌, refl, sym, ap, subst, ◌∙◌, arith, inl, inr}
use Rattle.occ_base.specs.declared.code.Code.{Code}
use Rattle.occ_base.specs.declared.code.Code.TheVariants as code
use Rattle.occ_forms.specs.Depth.{HasForm, HasNoForm, IsTooDeep, form_dimensions}
use Rattle.occ_forms.specs.Prepared.{AreFormed, IsFormed, IsFormedLine, IsPrepared}
use Rattle.occ_forms.specs.Spelling.{form_tokens}
use Rattle.occ_forms.specs.declared.source.LineBody.{LineBody}
use Rattle.occ_forms.specs.declared.source.LineBody.TheVariants as held
use Rattle.occ_forms.specs.declared.source.SourceLine.{SourceLine}
use Rattle.occ_forms.specs.declared.tree.Form.{Form}
use Rattle.occ_lines.specs.Lines.{IsLines}
use Rattle.occ_lines.specs.declared.text.Body.{Body}
use Rattle.occ_lines.specs.declared.text.Body.TheVariants as body
use Rattle.occ_lines.specs.declared.text.Logical.{Logical}
use Rattle.occ_lines.specs.declared.token.Token.{Token}

module _ (one_form : (a b : Form) → form_tokens a ≡ form_tokens b → a ≡ b) where
  -- a line that has a form is not too deep
  formed_not_deep : (tokens : List Token) (form : Form) → HasForm tokens form → IsTooDeep tokens → ⊥
  formed_not_deep tokens form has (inl deep) = omega (arith, deep, has.few_open)
  formed_not_deep tokens form has (inr other) =
      let same : form_dimensions other.0 ≡ form_dimensions form = ap form_dimensions (one_form other.0 form (sym other.1 ∙ has.spelled)) in
      omega (arith, same, other.2, has.few_dimensions)

  no_form_not_deep : (tokens : List Token) → HasNoForm tokens → IsTooDeep tokens → ⊥
  no_form_not_deep tokens none (inl deep) = omega (arith, deep, none.few_open)
  no_form_not_deep tokens none (inr other) = none.none other.0 other.1

  abbrev IsFault : List Token → Code → Type 0
  IsFault tokens fault = ((fault ≡ code.S3) × IsTooDeep tokens) ⊎ ((fault ≡ code.S1) × HasNoForm tokens)

  form_not_fault : (tokens : List Token) (form : Form) (fault : Code) → HasForm tokens form → IsFault tokens fault → ⊥
  form_not_fault tokens form fault has (inl deep) = formed_not_deep tokens form has deep.1
  form_not_fault tokens form fault has (inr none) = none.1.none form has.spelled

  one_fault : (tokens : List Token) (a b : Code) → IsFault tokens a → IsFault tokens b → a ≡ b
  one_fault tokens a b (inl p) (inl q) = p.0 ∙ sym q.0
  one_fault tokens a b (inl p) (inr q) = absurd (no_form_not_deep tokens q.1 p.1)
  one_fault tokens a b (inr p) (inl q) = absurd (no_form_not_deep tokens p.1 q.1)
  one_fault tokens a b (inr p) (inr q) = p.0 ∙ sym q.0

  one_body : (b : Body) (x y : LineBody) → IsFormed b x → IsFormed b y → x ≡ y
  one_body (body.Tokens tokens) (held.Form f) (held.Form g) p q = ap held.Form (one_form f g (sym p.spelled ∙ q.spelled))
  one_body (body.Tokens tokens) (held.Form f) (held.Fault fault) p q = absurd (form_not_fault tokens f fault p q)
  one_body (body.Tokens tokens) (held.Form f) (held.Include name) p q = absurd q
  one_body (body.Tokens tokens) (held.Form f) (held.Uses name list) p q = absurd q
  one_body (body.Tokens tokens) (held.Fault fault) (held.Form g) p q = absurd (form_not_fault tokens g fault q p)
  one_body (body.Tokens tokens) (held.Fault a) (held.Fault b) p q = ap held.Fault (one_fault tokens a b p q)
  one_body (body.Tokens tokens) (held.Fault fault) (held.Include name) p q = absurd q
  one_body (body.Tokens tokens) (held.Fault fault) (held.Uses name list) p q = absurd q
  one_body (body.Tokens tokens) (held.Include name) y p q = absurd p
  one_body (body.Tokens tokens) (held.Uses name list) y p q = absurd p
  one_body (body.Include given) (held.Include a) (held.Include b) p q = ap held.Include (p ∙ sym q)
  one_body (body.Include given) (held.Include a) (held.Form g) p q = absurd q
  one_body (body.Include given) (held.Include a) (held.Uses b list) p q = absurd q
  one_body (body.Include given) (held.Include a) (held.Fault b) p q = absurd q
  one_body (body.Include given) (held.Form f) y p q = absurd p
  one_body (body.Include given) (held.Uses name list) y p q = absurd p
  one_body (body.Include given) (held.Fault fault) y p q = absurd p
  one_body (body.Uses given lists) (held.Uses a x) (held.Uses b y) p q = ap (λ (n : List ℕ). held.Uses n x) (p.0 ∙ sym q.0) ∙ ap (held.Uses b) (p.1 ∙ sym q.1)
  one_body (body.Uses given lists) (held.Uses a x) (held.Form g) p q = absurd q
  one_body (body.Uses given lists) (held.Uses a x) (held.Include b) p q = absurd q
  one_body (body.Uses given lists) (held.Uses a x) (held.Fault b) p q = absurd q
  one_body (body.Uses given lists) (held.Form f) y p q = absurd p
  one_body (body.Uses given lists) (held.Include name) y p q = absurd p
  one_body (body.Uses given lists) (held.Fault fault) y p q = absurd p
  one_body (body.Fault given) (held.Fault a) (held.Fault b) p q = ap held.Fault (p ∙ sym q)
  one_body (body.Fault given) (held.Fault a) (held.Form g) p q = absurd q
  one_body (body.Fault given) (held.Fault a) (held.Include b) p q = absurd q
  one_body (body.Fault given) (held.Fault a) (held.Uses b list) p q = absurd q
  one_body (body.Fault given) (held.Form f) y p q = absurd p
  one_body (body.Fault given) (held.Include name) y p q = absurd p
  one_body (body.Fault given) (held.Uses name list) y p q = absurd p

  one_line : (logical : Logical) (x y : SourceLine) → IsFormedLine logical x → IsFormedLine logical y → x ≡ y
  one_line logical x y p q =
      ap (λ (n : ℕ). record { line = n; depth = x.depth; body = x.body }) (p.number ∙ sym q.number)
      ∙ ap (λ (n : ℕ). record { line = y.line; depth = n; body = x.body }) (p.depth ∙ sym q.depth)
      ∙ ap (λ (b : LineBody). record { line = y.line; depth = y.depth; body = b }) (one_body logical.body x.body y.body p.held q.held)

  one_formed : (logicals : List Logical) (xs ys : List SourceLine) → AreFormed logicals xs → AreFormed logicals ys → xs ≡ ys
  one_formed [] [] [] p q = refl
  one_formed [] [] (y ∷ ys) p q = absurd q
  one_formed [] (x ∷ xs) ys p q = absurd p
  one_formed (l ∷ ls) [] ys p q = absurd p
  one_formed (l ∷ ls) (x ∷ xs) [] p q = absurd q
  one_formed (l ∷ ls) (x ∷ xs) (y ∷ ys) p q = ap (λ (z : SourceLine). z ∷ xs) (one_line l x y p.0 q.0) ∙ ap (λ (zs : List SourceLine). y ∷ zs) (one_formed ls xs ys p.1 q.1)

  module _ (one_lines : (text : List ℕ) (xs : List Logical) (ys : List Logical) → IsLines text xs → IsLines text ys → xs ≡ ys) where
    pub one_prepared : (text : List ℕ) (lines others : List SourceLine) → IsPrepared text lines → IsPrepared text others → lines ≡ others
    one_prepared text lines others p q =
        let same : q.0 ≡ p.0 = one_lines text q.0 p.0 q.1 p.1 in
        one_formed p.0 lines others p.2 (subst (λ (ls : List Logical). AreFormed ls others) same q.2)
