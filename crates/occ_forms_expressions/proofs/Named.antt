-- Operands that begin with a name.
use Rattle.std.proofs.Common.{◌≡◌, ◌∙◌, sym, ap, ℕ, true, false, List, [], ◌∷◌, Option, Some, None}
use Rattle.occ_lines.specs.declared.token.Symbol.TheVariants as s
use Rattle.occ_lines.specs.declared.token.Token.{Token}
use Rattle.occ_lines.specs.declared.token.Token.TheVariants as t
use Rattle.occ_forms_expressions.specs.declared.tree.Element.{Element}
use Rattle.occ_forms_expressions.specs.declared.tree.Element.TheVariants as ev
use Rattle.occ_forms_expressions.specs.declared.tree.Expr.{Expr}
use Rattle.occ_forms_expressions.specs.declared.tree.Literal.{Literal}
use Rattle.occ_forms_expressions.specs.declared.tree.Operand.TheVariants as ov
use Rattle.occ_forms_expressions.specs.declared.tree.TypeForm.{TypeForm}
use Rattle.occ_forms_expressions.specs.Reading.{IsAfter, ends_operand}
use Rattle.occ_forms_expressions.specs.Spelling.{arguments_of, element_then, many, operand_then, subscript_of}
use Rattle.occ_forms_expressions.proofs.Cases.{element_named_spells, operand_call_spells, operand_element_spells}

-- where an element ends no bracket of a call is open
pub no_call : (es : List Expr) (k begun tokens : List Token) → IsAfter k → tokens ≡ t.Symbol s.Open ∷ begun → tokens ≡ many subscript_of es k → ⊥
no_call [] k begun tokens after is e = let h : false ≡ true = sym (ap ends_operand (sym e ∙ is)) ∙ after in (cc)
no_call (x ∷ xs) k begun tokens after is e = let h : t.Symbol s.Open ∷ begun ≡ subscript_of x (many subscript_of xs k) = sym is ∙ e in absurd cc

pub call_found : (n : List ℕ) (es : List Expr) (tokens rest begun : List Token) → tokens ≡ t.Symbol s.Open ∷ begun → t.Symbol s.Open ∷ begun ≡ arguments_of es rest
    → t.Name n ∷ tokens ≡ operand_then (ov.Call n es) rest
call_found n es tokens rest begun is e = ap (λ (z : List Token). t.Name n ∷ z) (is ∙ e) ∙ sym (operand_call_spells n es rest)

pub element_found : (n : List ℕ) (es : List Expr) (el : Element) (tokens rest : List Token) → el ≡ ev.Named n es → tokens ≡ many subscript_of es rest
    → t.Name n ∷ tokens ≡ operand_then (ov.Element el) rest
element_found n es el tokens rest is e = ap (λ (z : List Token). t.Name n ∷ z) e ∙ sym (element_named_spells n es rest) ∙ ap (λ (z : Element). element_then z rest) (sym is) ∙ sym (operand_element_spells el rest)

pub plain_is_not_decorated : {Z : Type 0} (type : TypeForm) (d : Option TypeForm) → d ≡ None → d ≡ Some type → Z
plain_is_not_decorated type d none some = let h : None ≡ Some type = sym none ∙ some in absurd cc

pub decorated_same : (l : Literal) (boxed form type : TypeForm) (d : Option TypeForm) → boxed ≡ form → d ≡ Some form → d ≡ Some type → ov.Decorated l boxed ≡ ov.Decorated l type
decorated_same l boxed form type d same is some = let h : Some form ≡ Some type = sym is ∙ some in let i : form ≡ type = (cc) in ap (λ (x : TypeForm). ov.Decorated l x) (same ∙ i)
