-- Two sources are one if their texts are.
use Rattle.std.proofs.Common.{◌≡◌, ◌∙◌, Bool, true, ℕ, List, sym, ap, subst}
use Rattle.std.proofs.lemmas.Slice.Eq.{bytes_eq-Decides}
use Rattle.std.specs.Str.{bytes_eq}
use Rattle.occ_forms.specs.Prepared.{IsPrepared, Prepared}
use Rattle.occ_forms.specs.declared.source.SourceLine.{SourceLine}

-- one text has one list of lines
pub one_of_text : ((text : List ℕ) (lines others : List SourceLine) → IsPrepared text lines → IsPrepared text others → lines ≡ others) → (a b : Prepared) → IsPrepared a.text a.lines → IsPrepared b.text b.lines → a.text ≡ b.text → a ≡ b
one_of_text law a b p q texts =
    ap (λ (x : List ℕ). record { text = x; lines = a.lines }) texts
    ∙ ap (λ (ls : List SourceLine). record { text = b.text; lines = ls }) (law b.text a.lines b.lines (subst (λ (x : List ℕ). IsPrepared x a.lines) texts p) q)

pub same_source : ((text : List ℕ) (lines others : List SourceLine) → IsPrepared text lines → IsPrepared text others → lines ≡ others) → (a b : Prepared) (s t : List ℕ) (r : Bool) → IsPrepared a.text a.lines → IsPrepared b.text b.lines
    → s ≡ a.text → t ≡ b.text → r ≡ bytes_eq s t → (r ≡ true → a ≡ b) × (a ≡ b → r ≡ true)
same_source law a b s t r p q e f is = (
  λ h. one_of_text law a b p q (sym e ∙ (bytes_eq-Decides s t).0 (sym is ∙ h) ∙ f),
  λ h. is ∙ (bytes_eq-Decides s t).1 (e ∙ ap (λ (x : Prepared). x.text) h ∙ sym f),
)
