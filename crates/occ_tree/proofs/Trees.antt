-- What the sorts of expressions are at each variant of a tree.
use Rattle.std.proofs.Common.{◌≡◌, ◌∙◌, sym, ap, ℕ, Bool, List}
use Rattle.occ_forms_expressions.specs.declared.tree.Bounds.{Bounds}
use Rattle.occ_forms_expressions.specs.declared.tree.Builtin.{Builtin}
use Rattle.occ_forms_expressions.specs.declared.tree.Dimension.{Dimension}
use Rattle.occ_forms_expressions.specs.declared.tree.Extreme.{Extreme}
use Rattle.occ_forms_expressions.specs.declared.tree.Literal.{Literal}
use Rattle.occ_forms_expressions.specs.declared.tree.MonadicOperator.{MonadicOperator}
use Rattle.occ_forms_expressions.specs.declared.tree.NamedOperand.{NamedOperand}
use Rattle.occ_forms_expressions.specs.declared.tree.PairOperator.{PairOperator}
use Rattle.occ_forms_expressions.specs.declared.tree.RunOperator.{RunOperator}
use Rattle.occ_forms_expressions.specs.declared.tree.TypeForm.{TypeForm}
use Rattle.occ_forms_expressions.specs.declared.tree.Element.{Element as AnyElement}
use Rattle.occ_forms_expressions.specs.declared.tree.Expr.{Expr as AnyExpr}
use Rattle.occ_forms_expressions.specs.declared.tree.Operand.{Operand as AnyOperand}
use Rattle.occ_forms_expressions.specs.declared.tree.Element.TheVariants as ev
use Rattle.occ_forms_expressions.specs.declared.tree.Expr.TheVariants as xv
use Rattle.occ_forms_expressions.specs.declared.tree.Operand.TheVariants as ov
use Rattle.occ_forms_expressions.specs.declared.tree.Bounds.TheOpen.{Element-F, Expr-F, Operand-F}
use Rattle.occ_forms_expressions.specs.declared.tree.Bounds.TheViews.{out-roll-Element, out-roll-Expr, out-roll-Operand}
use Rattle.occ_tree.specs.Sorts.{expression_sort, expression_sort_step, is_name, is_name_step, operand_sort, operand_sort_step}

pub operand_sort_element : (el : AnyElement) → operand_sort (ov.Element el) ≡ operand_sort_step (Operand-F.Operand::Element el)
unfolding operand_sort
operand_sort_element el = ap operand_sort (sym (ov.rolls-Element el)) ∙ ap operand_sort_step (out-roll-Operand (Operand-F.Operand::Element el))

pub operand_sort_literal : (l : Literal) → operand_sort (ov.Literal l) ≡ operand_sort_step (Operand-F.Operand::Literal l)
unfolding operand_sort
operand_sort_literal l = ap operand_sort (sym (ov.rolls-Literal l)) ∙ ap operand_sort_step (out-roll-Operand (Operand-F.Operand::Literal l))

pub operand_sort_decorated : (l : Literal) (type : TypeForm) → operand_sort (ov.Decorated l type) ≡ operand_sort_step (Operand-F.Operand::Decorated l type)
unfolding operand_sort
operand_sort_decorated l type = ap operand_sort (sym (ov.rolls-Decorated l type)) ∙ ap operand_sort_step (out-roll-Operand (Operand-F.Operand::Decorated l type))

pub operand_sort_truth : (b : Bool) → operand_sort (ov.Truth b) ≡ operand_sort_step (Operand-F.Operand::Truth b)
unfolding operand_sort
operand_sort_truth b = ap operand_sort (sym (ov.rolls-Truth b)) ∙ ap operand_sort_step (out-roll-Operand (Operand-F.Operand::Truth b))

pub operand_sort_parens : (e : AnyExpr) → operand_sort (ov.Parens e) ≡ operand_sort_step (Operand-F.Parens e)
unfolding operand_sort
operand_sort_parens e = ap operand_sort (sym (ov.rolls-Parens e)) ∙ ap operand_sort_step (out-roll-Operand (Operand-F.Parens e))

pub operand_sort_table : (e : AnyExpr) (es : List AnyExpr) → operand_sort (ov.Table e es) ≡ operand_sort_step (Operand-F.Operand::Table e es)
unfolding operand_sort
operand_sort_table e es = ap operand_sort (sym (ov.rolls-Table e es)) ∙ ap operand_sort_step (out-roll-Operand (Operand-F.Operand::Table e es))

pub operand_sort_decoratedtable : (e : AnyExpr) (es : List AnyExpr) (type : TypeForm) → operand_sort (ov.DecoratedTable e es type) ≡ operand_sort_step (Operand-F.Operand::DecoratedTable e es type)
unfolding operand_sort
operand_sort_decoratedtable e es type = ap operand_sort (sym (ov.rolls-DecoratedTable e es type)) ∙ ap operand_sort_step (out-roll-Operand (Operand-F.Operand::DecoratedTable e es type))

pub operand_sort_call : (n : List ℕ) (es : List AnyExpr) → operand_sort (ov.Call n es) ≡ operand_sort_step (Operand-F.Operand::Call n es)
unfolding operand_sort
operand_sort_call n es = ap operand_sort (sym (ov.rolls-Call n es)) ∙ ap operand_sort_step (out-roll-Operand (Operand-F.Operand::Call n es))

pub expression_sort_alone : (o : AnyOperand) → expression_sort (xv.Alone o) ≡ expression_sort_step (Expr-F.Alone o)
unfolding expression_sort
expression_sort_alone o = ap expression_sort (sym (xv.rolls-Alone o)) ∙ ap expression_sort_step (out-roll-Expr (Expr-F.Alone o))

pub expression_sort_run : (r : RunOperator) (a : AnyOperand) (b : AnyOperand) (os : List AnyOperand) → expression_sort (xv.Run r a b os) ≡ expression_sort_step (Expr-F.Run r a b os)
unfolding expression_sort
expression_sort_run r a b os = ap expression_sort (sym (xv.rolls-Run r a b os)) ∙ ap expression_sort_step (out-roll-Expr (Expr-F.Run r a b os))

pub expression_sort_pair : (a : AnyOperand) (p : PairOperator) (b : AnyOperand) → expression_sort (xv.Pair a p b) ≡ expression_sort_step (Expr-F.Pair a p b)
unfolding expression_sort
expression_sort_pair a p b = ap expression_sort (sym (xv.rolls-Pair a p b)) ∙ ap expression_sort_step (out-roll-Expr (Expr-F.Pair a p b))

pub expression_sort_applied : (m : MonadicOperator) (o : AnyOperand) → expression_sort (xv.Applied m o) ≡ expression_sort_step (Expr-F.Applied m o)
unfolding expression_sort
expression_sort_applied m o = ap expression_sort (sym (xv.rolls-Applied m o)) ∙ ap expression_sort_step (out-roll-Expr (Expr-F.Applied m o))

pub expression_sort_converted : (ds : List Dimension) (b : Builtin) (o : AnyOperand) → expression_sort (xv.Converted ds b o) ≡ expression_sort_step (Expr-F.Converted ds b o)
unfolding expression_sort
expression_sort_converted ds b o = ap expression_sort (sym (xv.rolls-Converted ds b o)) ∙ ap expression_sort_step (out-roll-Expr (Expr-F.Converted ds b o))

pub expression_sort_arrayconverted : (d : Dimension) (ds : List Dimension) (n : List ℕ) (o : AnyOperand) → expression_sort (xv.ArrayConverted d ds n o) ≡ expression_sort_step (Expr-F.ArrayConverted d ds n o)
unfolding expression_sort
expression_sort_arrayconverted d ds n o = ap expression_sort (sym (xv.rolls-ArrayConverted d ds n o)) ∙ ap expression_sort_step (out-roll-Expr (Expr-F.ArrayConverted d ds n o))

pub expression_sort_named : (n : List ℕ) (o : NamedOperand) → expression_sort (xv.Named n o) ≡ expression_sort_step (Expr-F.Expr::Named n o)
unfolding expression_sort
expression_sort_named n o = ap expression_sort (sym (xv.rolls-Named n o)) ∙ ap expression_sort_step (out-roll-Expr (Expr-F.Expr::Named n o))

pub expression_sort_most : (x : Extreme) (type : TypeForm) → expression_sort (xv.Most x type) ≡ expression_sort_step (Expr-F.Most x type)
unfolding expression_sort
expression_sort_most x type = ap expression_sort (sym (xv.rolls-Most x type)) ∙ ap expression_sort_step (out-roll-Expr (Expr-F.Most x type))

pub is_name_named : (n : List ℕ) (es : List AnyExpr) → is_name (ev.Named n es) ≡ is_name_step (Element-F.Element::Named n es)
unfolding is_name
is_name_named n es = ap is_name (sym (ev.rolls-Named n es)) ∙ ap is_name_step (out-roll-Element (Element-F.Element::Named n es))

pub is_name_segment : (el : AnyElement) (bounds : Bounds) (es : List AnyExpr) → is_name (ev.Segment el bounds es) ≡ is_name_step (Element-F.Segment el bounds es)
unfolding is_name
is_name_segment el bounds es = ap is_name (sym (ev.rolls-Segment el bounds es)) ∙ ap is_name_step (out-roll-Element (Element-F.Segment el bounds es))

pub ruleset tree_rules = (operand_sort_element, operand_sort_literal, operand_sort_decorated, operand_sort_truth, operand_sort_parens, operand_sort_table, operand_sort_decoratedtable, operand_sort_call, expression_sort_alone, expression_sort_run, expression_sort_pair, expression_sort_applied, expression_sort_converted, expression_sort_arrayconverted, expression_sort_named, expression_sort_most, is_name_named, is_name_segment)
