-- What stands in square brackets: a dimension that is open, a table, or a segment.
use Rattle.std.specs.Prelude.{◌≡◌, ◌≢◌, MatchOption, Bool, true, false, List, [], ◌∷◌, Option, Some, None}
use Rattle.occ_lines.specs.declared.token.Token.{Token}
use Rattle.occ_lines.specs.declared.token.Token.TheVariants as t
use Rattle.occ_lines.specs.declared.token.Symbol.TheVariants as s
use Rattle.occ_lines.specs.declared.token.Word.TheVariants as w
use Rattle.occ_forms_expressions.specs.declared.bracket.Bracket.{Bracket}
use Rattle.occ_forms_expressions.specs.declared.bracket.Bracket.TheVariants as br
use Rattle.occ_forms_expressions.specs.declared.bracket.Closing.{Closing}
use Rattle.occ_forms_expressions.specs.declared.bracket.Closing.TheVariants as cl
use Rattle.occ_forms_expressions.specs.declared.tree.Bounds.TheOpen.{Operand-F}
use Rattle.occ_forms_expressions.specs.declared.tree.Bounds.{Bounds}
use Rattle.occ_forms_expressions.specs.declared.tree.Builtin.{Builtin}
use Rattle.occ_forms_expressions.specs.declared.tree.Dimension.{Dimension}
use Rattle.occ_forms_expressions.specs.declared.tree.Element.{Element}
use Rattle.occ_forms_expressions.specs.declared.tree.Element.TheVariants as ev
use Rattle.occ_forms_expressions.specs.declared.tree.Expr.{Expr}
use Rattle.occ_forms_expressions.specs.declared.tree.Expr.TheVariants as xv
use Rattle.occ_forms_expressions.specs.declared.tree.NamedOperand.{NamedOperand}
use Rattle.occ_forms_expressions.specs.declared.tree.NamedOperand.TheVariants as nv
use Rattle.occ_forms_expressions.specs.declared.tree.Operand.{Operand, out-Operand}
use Rattle.occ_forms_expressions.specs.declared.tree.Operand.TheVariants as ov
use Rattle.occ_forms_expressions.specs.declared.tree.TypeForm.{TypeForm}
use Rattle.occ_forms_expressions.specs.Reading.{IsNot}
use Rattle.occ_forms_expressions.specs.Spelling.{Spelling, bounds_then, expr_then, many, next_item_of, perhaps_decoration_of, subscript_of}

abbrev pub closing_then : Closing → Spelling
closing_then (cl.Items es type) k = many next_item_of es (t.Symbol s.CloseIndex ∷ perhaps_decoration_of type k)
closing_then (cl.Segment bounds es) k = bounds_then bounds (t.Symbol s.CloseIndex ∷ many subscript_of es k)

abbrev pub bracket_then : Bracket → Spelling
bracket_then br.Open k = t.Symbol s.OpenIndex ∷ t.Symbol s.CloseIndex ∷ k
bracket_then (br.Closed e closing) k = t.Symbol s.OpenIndex ∷ expr_then e (closing_then closing k)

abbrev pub bounds_begin : List Token → Bool
bounds_begin (t.Word w.From ∷ k) = true
bounds_begin (t.Word w.For ∷ k) = true
bounds_begin other = false

-- what may follow: no type after a table, and no further subscript after a segment
abbrev pub Fits : Closing → List Token → Type 0
Fits (cl.Items es type) k = IsNot s.Open k
Fits (cl.Segment bounds es) k = IsNot s.OpenIndex k

-- the operand that stands in brackets: a table, or a segment of an element
abbrev pub IsBracketed : Expr → Closing → Option Operand → Type 0
IsBracketed first (cl.Items es None) r = r ≡ Some (ov.Table first es)
IsBracketed first (cl.Items es (Some type)) r = r ≡ Some (ov.DecoratedTable first es type)
IsBracketed first (cl.Segment bounds es) r = MatchOption r ((el : Element) → first ≢ xv.Alone (ov.Element el))
    (λ o. (el : Element) × (first ≡ xv.Alone (ov.Element el)) × (o ≡ ov.Element (ev.Segment el bounds es)))

-- a table of two items or more
abbrev pub narrow_table : Expr → List Expr → Option NamedOperand
narrow_table first [] = None
narrow_table first (second ∷ more) = Some (nv.Table first second more)

abbrev pub narrow_step : Operand-F Bounds Builtin Dimension Element Expr NamedOperand Operand TypeForm → Option NamedOperand
narrow_step (Operand-F.Operand::Element el) = Some (nv.Element el)
narrow_step (Operand-F.Operand::Literal l) = Some (nv.Literal l)
narrow_step (Operand-F.Operand::Decorated l type) = Some (nv.Decorated l type)
narrow_step (Operand-F.Operand::Truth b) = Some (nv.Truth b)
narrow_step (Operand-F.Parens e) = None
narrow_step (Operand-F.Operand::Table e es) = narrow_table e es
narrow_step (Operand-F.Operand::DecoratedTable e es type) = Some (nv.DecoratedTable e es type)
narrow_step (Operand-F.Operand::Call n es) = Some (nv.Call n es)

-- the operand as it may stand after the name of a type, if it may
unfoldable pub narrow_of : Operand → Option NamedOperand
narrow_of o = narrow_step (out-Operand o)
