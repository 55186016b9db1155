-- A source is that of its text.
use Rattle.std.proofs.Common.{◌≡◌, ◌∙◌, Bool, true, ℕ, List, sym, ap, subst}
use Rattle.std.proofs.lemmas.Slice.Eq.{bytes_eq-Decides}
use Rattle.std.specs.Str.{bytes_eq}
use Rattle.occ_forms.specs.Prepared.{IsPrepared, Prepared}
use Rattle.occ_forms.specs.declared.source.SourceLine.{SourceLine}
use Rattle.occheck_script.specs.Machine.{Reading, text_read}

pub same_text : ((text : List ℕ) (lines others : List SourceLine) → IsPrepared text lines → IsPrepared text others → lines ≡ others) → (a : Prepared) (s t text : List ℕ) (read : Reading) (r : Bool) → IsPrepared a.text a.lines
    → IsPrepared text (read text) → s ≡ a.text → t ≡ text → r ≡ bytes_eq s t → r ≡ true → a ≡ text_read read text
same_text law a s t text read r p q e f is h =
    let texts : a.text ≡ text = sym e ∙ (bytes_eq-Decides s t).0 (sym is ∙ h) ∙ f in
    ap (λ (x : List ℕ). record { text = x; lines = a.lines }) texts
    ∙ ap (λ (ls : List SourceLine). record { text = text; lines = ls }) (law text a.lines (read text) (subst (λ (x : List ℕ). IsPrepared x a.lines) texts p) q)
