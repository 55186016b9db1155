use Rattle.std.proofs.Common.{◌≡◌, ◌∙◌, ◌∷◌, [], sym, subst}
use denote.Enum.Bare.{same_true}
use Rattle.occ_lines.specs.contracts.token.Word.{the_type}
use Rattle.occ_forms.specs.Depth.{HasForm}
use Rattle.occ_lines.specs.declared.token.Word.{Word}
use Rattle.occ_lines.specs.declared.token.Token.TheVariants as token
use Rattle.occ_forms.proofs.words.WordForm.form_of.Goals as goal

pub returns-then-eq : goal.returns-then-eq
returns-then-eq c =
    let same : c.self.inside.word ≡ c.args.word = same_true the_type tt _ _ (sym c.eq.ensures ∙ c.if-eq.true) in
    subst (λ (w : Word). HasForm (token.Word w ∷ []) c.self.inside.form) same c.self.invariant
