-- Where elements and expressions end.
use Rattle.std.proofs.Common.{◌≡◌, ◌∙◌, refl, ap, true, List, [], ◌∷◌}
use Rattle.occ_lines.specs.declared.token.Symbol.TheVariants as s
use Rattle.occ_lines.specs.declared.token.Token.{Token}
use Rattle.occ_lines.specs.declared.token.Token.TheVariants as t
use Rattle.occ_forms_expressions.specs.declared.tree.Element.{Element}
use Rattle.occ_forms_expressions.specs.Reading.{IsEnd, ends_expr}
use Rattle.occ_forms_expressions.specs.Spelling.{element_then}
use Rattle.occ_forms_expressions.proofs.Cases.{ElementIs, element_is, element_is_named, element_is_segment, element_named_spells, element_segment_spells}
use Rattle.occ_forms.specs.Reading.{IsItemEnd}

-- what ends an item of a list ends an element
pub item_end : (k : List Token) → IsItemEnd k → IsEnd k
item_end [] ends = refl
item_end (t.Symbol s.Semicolon ∷ k) ends = refl
item_end (t.Symbol other ∷ k) ends = absurd cc
item_end (other ∷ k) ends = absurd cc

-- an element does not begin with `[]`
bracket_ends : (el : Element) (k : List Token) → ends_expr (t.Symbol s.Counted ∷ t.Symbol s.OpenIndex ∷ element_then el k) ≡ true
bracket_ends el k = by el k (element_is el) where
  at : List Token → List Token
  at z = t.Symbol s.Counted ∷ t.Symbol s.OpenIndex ∷ z

  by : (el : Element) (k : List Token) → ElementIs el → ends_expr (at (element_then el k)) ≡ true
  by el k (element_is_named n es e) = ap (λ (x : Element). ends_expr (at (element_then x k))) e ∙ ap (λ (z : List Token). ends_expr (at z)) (element_named_spells n es k)
  by el k (element_is_segment of b es e) = ap (λ (x : Element). ends_expr (at (element_then x k))) e ∙ ap (λ (z : List Token). ends_expr (at z)) (element_segment_spells of b es k)

-- so what stands before `::` and an element ends there
pub count_ends : (el : Element) (k : List Token) → IsEnd (t.Symbol s.Counted ∷ element_then el k)
count_ends el k = by el k (element_is el) where
  at : List Token → List Token
  at z = t.Symbol s.Counted ∷ z

  by : (el : Element) (k : List Token) → ElementIs el → ends_expr (at (element_then el k)) ≡ true
  by el k (element_is_named n es e) = ap (λ (x : Element). ends_expr (at (element_then x k))) e ∙ ap (λ (z : List Token). ends_expr (at z)) (element_named_spells n es k)
  by el k (element_is_segment of b es e) = ap (λ (x : Element). ends_expr (at (element_then x k))) e ∙ ap (λ (z : List Token). ends_expr (at z)) (element_segment_spells of b es k) ∙ bracket_ends of _
