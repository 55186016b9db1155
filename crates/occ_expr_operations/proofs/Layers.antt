-- Each form at its outermost: what an expression, an operand and an element are.
use Rattle.std.proofs.Common.{◌≡◌, ◌∙◌, ℕ, Bool, List, ap, sym}
use Rattle.occ_forms_expressions.specs.declared.tree.Bounds.{Bounds}
use Rattle.occ_forms_expressions.specs.declared.tree.Bounds.TheOpen.{Element-F, Expr-F, Operand-F}
use Rattle.occ_forms_expressions.specs.declared.tree.Bounds.TheViews.{out-roll-Element, out-roll-Expr, out-roll-Operand}
use Rattle.occ_forms_expressions.specs.declared.tree.Builtin.{Builtin}
use Rattle.occ_forms_expressions.specs.declared.tree.Dimension.{Dimension}
use Rattle.occ_forms_expressions.specs.declared.tree.Element.{Element, out-Element}
use Rattle.occ_forms_expressions.specs.declared.tree.Element.TheVariants as ev
use Rattle.occ_forms_expressions.specs.declared.tree.Expr.{Expr, out-Expr}
use Rattle.occ_forms_expressions.specs.declared.tree.Expr.TheVariants as xv
use Rattle.occ_forms_expressions.specs.declared.tree.Extreme.{Extreme}
use Rattle.occ_forms_expressions.specs.declared.tree.Literal.{Literal}
use Rattle.occ_forms_expressions.specs.declared.tree.MonadicOperator.{MonadicOperator}
use Rattle.occ_forms_expressions.specs.declared.tree.NamedOperand.{NamedOperand}
use Rattle.occ_forms_expressions.specs.declared.tree.Operand.{Operand, out-Operand}
use Rattle.occ_forms_expressions.specs.declared.tree.Operand.TheVariants as ov
use Rattle.occ_forms_expressions.specs.declared.tree.PairOperator.{PairOperator}
use Rattle.occ_forms_expressions.specs.declared.tree.RunOperator.{RunOperator}
use Rattle.occ_forms_expressions.specs.declared.tree.TypeForm.{TypeForm}

pub expr_alone : (o : Operand) → out-Expr (xv.Alone o) ≡ Expr-F.Alone o
expr_alone o = ap out-Expr (sym (xv.rolls-Alone o)) ∙ out-roll-Expr (Expr-F.Alone o)

pub expr_run : (operator : RunOperator) (a : Operand) (b : Operand) (os : List Operand) → out-Expr (xv.Run operator a b os) ≡ Expr-F.Run operator a b os
expr_run operator a b os = ap out-Expr (sym (xv.rolls-Run operator a b os)) ∙ out-roll-Expr (Expr-F.Run operator a b os)

pub expr_pair : (a : Operand) (operator : PairOperator) (b : Operand) → out-Expr (xv.Pair a operator b) ≡ Expr-F.Pair a operator b
expr_pair a operator b = ap out-Expr (sym (xv.rolls-Pair a operator b)) ∙ out-roll-Expr (Expr-F.Pair a operator b)

pub expr_applied : (operator : MonadicOperator) (o : Operand) → out-Expr (xv.Applied operator o) ≡ Expr-F.Applied operator o
expr_applied operator o = ap out-Expr (sym (xv.rolls-Applied operator o)) ∙ out-roll-Expr (Expr-F.Applied operator o)

pub expr_converted : (ds : List Dimension) (u : Builtin) (o : Operand) → out-Expr (xv.Converted ds u o) ≡ Expr-F.Converted ds u o
expr_converted ds u o = ap out-Expr (sym (xv.rolls-Converted ds u o)) ∙ out-roll-Expr (Expr-F.Converted ds u o)

pub expr_array_converted : (d : Dimension) (ds : List Dimension) (name : List ℕ) (o : Operand) → out-Expr (xv.ArrayConverted d ds name o) ≡ Expr-F.ArrayConverted d ds name o
expr_array_converted d ds name o = ap out-Expr (sym (xv.rolls-ArrayConverted d ds name o)) ∙ out-roll-Expr (Expr-F.ArrayConverted d ds name o)

pub expr_named : (name : List ℕ) (o : NamedOperand) → out-Expr (xv.Named name o) ≡ Expr-F.Expr::Named name o
expr_named name o = ap out-Expr (sym (xv.rolls-Named name o)) ∙ out-roll-Expr (Expr-F.Expr::Named name o)

pub expr_most : (extreme : Extreme) (ty : TypeForm) → out-Expr (xv.Most extreme ty) ≡ Expr-F.Most extreme ty
expr_most extreme ty = ap out-Expr (sym (xv.rolls-Most extreme ty)) ∙ out-roll-Expr (Expr-F.Most extreme ty)

pub operand_element : (el : Element) → out-Operand (ov.Element el) ≡ Operand-F.Operand::Element el
operand_element el = ap out-Operand (sym (ov.rolls-Element el)) ∙ out-roll-Operand (Operand-F.Operand::Element el)

pub operand_literal : (lit : Literal) → out-Operand (ov.Literal lit) ≡ Operand-F.Operand::Literal lit
operand_literal lit = ap out-Operand (sym (ov.rolls-Literal lit)) ∙ out-roll-Operand (Operand-F.Operand::Literal lit)

pub operand_decorated : (lit : Literal) (ty : TypeForm) → out-Operand (ov.Decorated lit ty) ≡ Operand-F.Operand::Decorated lit ty
operand_decorated lit ty = ap out-Operand (sym (ov.rolls-Decorated lit ty)) ∙ out-roll-Operand (Operand-F.Operand::Decorated lit ty)

pub operand_truth : (b : Bool) → out-Operand (ov.Truth b) ≡ Operand-F.Operand::Truth b
operand_truth b = ap out-Operand (sym (ov.rolls-Truth b)) ∙ out-roll-Operand (Operand-F.Operand::Truth b)

pub operand_parens : (e : Expr) → out-Operand (ov.Parens e) ≡ Operand-F.Parens e
operand_parens e = ap out-Operand (sym (ov.rolls-Parens e)) ∙ out-roll-Operand (Operand-F.Parens e)

pub operand_table : (e : Expr) (es : List Expr) → out-Operand (ov.Table e es) ≡ Operand-F.Operand::Table e es
operand_table e es = ap out-Operand (sym (ov.rolls-Table e es)) ∙ out-roll-Operand (Operand-F.Operand::Table e es)

pub operand_decorated_table : (e : Expr) (es : List Expr) (ty : TypeForm) → out-Operand (ov.DecoratedTable e es ty) ≡ Operand-F.Operand::DecoratedTable e es ty
operand_decorated_table e es ty = ap out-Operand (sym (ov.rolls-DecoratedTable e es ty)) ∙ out-roll-Operand (Operand-F.Operand::DecoratedTable e es ty)

pub operand_call : (name : List ℕ) (es : List Expr) → out-Operand (ov.Call name es) ≡ Operand-F.Operand::Call name es
operand_call name es = ap out-Operand (sym (ov.rolls-Call name es)) ∙ out-roll-Operand (Operand-F.Operand::Call name es)

pub named_element : (name : List ℕ) (es : List Expr) → out-Element (ev.Named name es) ≡ Element-F.Element::Named name es
named_element name es = ap out-Element (sym (ev.rolls-Named name es)) ∙ out-roll-Element (Element-F.Element::Named name es)

pub segment : (el : Element) (b : Bounds) (es : List Expr) → out-Element (ev.Segment el b es) ≡ Element-F.Segment el b es
segment el b es = ap out-Element (sym (ev.rolls-Segment el b es)) ∙ out-roll-Element (Element-F.Segment el b es)

pub ruleset layer_rules = (expr_alone, expr_run, expr_pair, expr_applied, expr_converted, expr_array_converted, expr_named, expr_most, operand_element, operand_literal, operand_decorated, operand_truth, operand_parens, operand_table, operand_decorated_table, operand_call, named_element, segment)
