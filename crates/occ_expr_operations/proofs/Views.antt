-- What each form is in any scope, from what its parts are.
use Rattle.std.proofs.Common.{◌≡◌, ◌∙◌, ℕ, Bool, Option, List, [], ◌∷◌, map, refl, ap, sym}
use Rattle.occ_forms_expressions.specs.declared.tree.ChannelWords.{ChannelWords}
use Rattle.occ_forms_expressions.specs.declared.tree.DataBase.{DataBase}
use Rattle.occ_forms_expressions.specs.declared.tree.Extreme.{Extreme}
use Rattle.occ_forms_expressions.specs.declared.tree.Literal.{Literal}
use Rattle.occ_forms_expressions.specs.declared.tree.MonadicOperator.{MonadicOperator}
use Rattle.occ_forms_expressions.specs.declared.tree.PairOperator.{PairOperator}
use Rattle.occ_forms_expressions.specs.declared.tree.PrimitiveWord.{PrimitiveWord}
use Rattle.occ_forms_expressions.specs.declared.tree.RunOperator.{RunOperator}
use Rattle.occ_forms_expressions.specs.declared.tree.Bounds.{Bounds}
use Rattle.occ_forms_expressions.specs.declared.tree.Bounds.TheVariants as bv
use Rattle.occ_forms_expressions.specs.declared.tree.Builtin.{Builtin}
use Rattle.occ_forms_expressions.specs.declared.tree.Builtin.TheVariants as uv
use Rattle.occ_forms_expressions.specs.declared.tree.Dimension.{Dimension}
use Rattle.occ_forms_expressions.specs.declared.tree.Dimension.TheVariants as dv
use Rattle.occ_forms_expressions.specs.declared.tree.Element.{Element}
use Rattle.occ_forms_expressions.specs.declared.tree.Element.TheVariants as ev
use Rattle.occ_forms_expressions.specs.declared.tree.Expr.{Expr}
use Rattle.occ_forms_expressions.specs.declared.tree.Expr.TheVariants as xv
use Rattle.occ_forms_expressions.specs.declared.tree.NamedOperand.{NamedOperand}
use Rattle.occ_forms_expressions.specs.declared.tree.NamedOperand.TheVariants as nv
use Rattle.occ_forms_expressions.specs.declared.tree.Operand.{Operand}
use Rattle.occ_forms_expressions.specs.declared.tree.Operand.TheVariants as ov
use Rattle.occ_forms_expressions.specs.declared.tree.TypeForm.{TypeForm}
use Rattle.occ_forms_expressions.specs.declared.tree.TypeForm.TheVariants as tv
use Rattle.occ_forms_expressions.specs.declared.tree.Bounds.TheFolds.{fold-roll-Bounds, fold-roll-Builtin, fold-roll-Dimension, fold-roll-Element, fold-roll-Expr, fold-roll-NamedOperand, fold-roll-Operand, fold-roll-TypeForm}
use Rattle.occ_forms_expressions.specs.declared.tree.Bounds.TheOpen.{Bounds-F, Builtin-F, Dimension-F, Element-F, Expr-F, NamedOperand-F, Operand-F, TypeForm-F}
use Rattle.occ_scope.specs.declared.scope.Scope.{Scope}
use Rattle.occ_expr_operations.specs.declared.written.Opening.{Opening}
use Rattle.occ_expr_operations.specs.Parts.{ExprView}
use Rattle.occ_expr_operations.specs.Views.{BoundsView, DimensionView, ElementView, TypeFormView, NamedOperandView, OperandView, BuiltinView, bounds_step, builtin_step, dimension_step, element_step, expr_step, named_operand_step, operand_step, type_form_step, bounds_view, builtin_view, dimension_view, element_view, expr_view, named_operand_view, operand_view, type_form_view, expr_views, operand_views, dimension_views}

all_expr_views : (xs : List Expr) → map expr_view xs ≡ expr_views xs
all_expr_views [] = refl
all_expr_views (x ∷ xs) = ap (λ (ys : List ExprView). expr_view x ∷ ys) (all_expr_views xs)

all_operand_views : (xs : List Operand) → map operand_view xs ≡ operand_views xs
all_operand_views [] = refl
all_operand_views (x ∷ xs) = ap (λ (ys : List OperandView). operand_view x ∷ ys) (all_operand_views xs)

all_dimension_views : (xs : List Dimension) → map dimension_view xs ≡ dimension_views xs
all_dimension_views [] = refl
all_dimension_views (x ∷ xs) = ap (λ (ys : List DimensionView). dimension_view x ∷ ys) (all_dimension_views xs)

pub bounds_from : (e : Expr) → bounds_view (bv.From e) ≡ bounds_step (Bounds-F.From (expr_view e))
bounds_from e =
    ap bounds_view (sym (bv.rolls-From e)) ∙ fold-roll-Bounds BoundsView BuiltinView DimensionView ElementView ExprView NamedOperandView OperandView TypeFormView bounds_step builtin_step dimension_step element_step expr_step named_operand_step operand_step type_form_step (Bounds-F.From e)

pub bounds_for : (e : Expr) → bounds_view (bv.For e) ≡ bounds_step (Bounds-F.For (expr_view e))
bounds_for e =
    ap bounds_view (sym (bv.rolls-For e)) ∙ fold-roll-Bounds BoundsView BuiltinView DimensionView ElementView ExprView NamedOperandView OperandView TypeFormView bounds_step builtin_step dimension_step element_step expr_step named_operand_step operand_step type_form_step (Bounds-F.For e)

pub bounds_from_for : (e : Expr) (f : Expr) → bounds_view (bv.FromFor e f) ≡ bounds_step (Bounds-F.FromFor (expr_view e) (expr_view f))
bounds_from_for e f =
    ap bounds_view (sym (bv.rolls-FromFor e f)) ∙ fold-roll-Bounds BoundsView BuiltinView DimensionView ElementView ExprView NamedOperandView OperandView TypeFormView bounds_step builtin_step dimension_step element_step expr_step named_operand_step operand_step type_form_step (Bounds-F.FromFor e f)

pub builtin_primitive : (w : PrimitiveWord) → builtin_view (uv.Primitive w) ≡ builtin_step (Builtin-F.Primitive w)
builtin_primitive w =
    ap builtin_view (sym (uv.rolls-Primitive w)) ∙ fold-roll-Builtin BoundsView BuiltinView DimensionView ElementView ExprView NamedOperandView OperandView TypeFormView bounds_step builtin_step dimension_step element_step expr_step named_operand_step operand_step type_form_step (Builtin-F.Primitive w)

pub builtin_timer : builtin_view uv.Timer ≡ builtin_step Builtin-F.Timer
builtin_timer =
    ap builtin_view (sym uv.rolls-Timer) ∙ fold-roll-Builtin BoundsView BuiltinView DimensionView ElementView ExprView NamedOperandView OperandView TypeFormView bounds_step builtin_step dimension_step element_step expr_step named_operand_step operand_step type_form_step Builtin-F.Timer

pub builtin_any_channel : (words : ChannelWords) → builtin_view (uv.AnyChannel words) ≡ builtin_step (Builtin-F.AnyChannel words)
builtin_any_channel words =
    ap builtin_view (sym (uv.rolls-AnyChannel words)) ∙ fold-roll-Builtin BoundsView BuiltinView DimensionView ElementView ExprView NamedOperandView OperandView TypeFormView bounds_step builtin_step dimension_step element_step expr_step named_operand_step operand_step type_form_step (Builtin-F.AnyChannel words)

pub builtin_channel : (words : ChannelWords) (ds : List Dimension) (base : DataBase) → builtin_view (uv.Channel words ds base) ≡ builtin_step (Builtin-F.Channel words (dimension_views ds) base)
builtin_channel words ds base =
    ap builtin_view (sym (uv.rolls-Channel words ds base)) ∙ fold-roll-Builtin BoundsView BuiltinView DimensionView ElementView ExprView NamedOperandView OperandView TypeFormView bounds_step builtin_step dimension_step element_step expr_step named_operand_step operand_step type_form_step (Builtin-F.Channel words ds base)
    ∙ ap (λ (ys : List DimensionView). builtin_step (Builtin-F.Channel words ys base)) (all_dimension_views ds)

pub builtin_counted : (words : ChannelWords) (ds : List Dimension) (base : DataBase) (es : List Dimension) (other : DataBase) → builtin_view (uv.Counted words ds base es other) ≡ builtin_step (Builtin-F.Counted words (dimension_views ds) base (dimension_views es) other)
builtin_counted words ds base es other =
    ap builtin_view (sym (uv.rolls-Counted words ds base es other)) ∙ fold-roll-Builtin BoundsView BuiltinView DimensionView ElementView ExprView NamedOperandView OperandView TypeFormView bounds_step builtin_step dimension_step element_step expr_step named_operand_step operand_step type_form_step (Builtin-F.Counted words ds base es other)
    ∙ ap (λ (ys : List DimensionView). builtin_step (Builtin-F.Counted words ys base (map dimension_view es) other)) (all_dimension_views ds)
    ∙ ap (λ (ys : List DimensionView). builtin_step (Builtin-F.Counted words (dimension_views ds) base ys other)) (all_dimension_views es)

pub dimension_open : dimension_view dv.Open ≡ dimension_step Dimension-F.Open
dimension_open =
    ap dimension_view (sym dv.rolls-Open) ∙ fold-roll-Dimension BoundsView BuiltinView DimensionView ElementView ExprView NamedOperandView OperandView TypeFormView bounds_step builtin_step dimension_step element_step expr_step named_operand_step operand_step type_form_step Dimension-F.Open

pub dimension_sized : (e : Expr) → dimension_view (dv.Sized e) ≡ dimension_step (Dimension-F.Sized (expr_view e))
dimension_sized e =
    ap dimension_view (sym (dv.rolls-Sized e)) ∙ fold-roll-Dimension BoundsView BuiltinView DimensionView ElementView ExprView NamedOperandView OperandView TypeFormView bounds_step builtin_step dimension_step element_step expr_step named_operand_step operand_step type_form_step (Dimension-F.Sized e)

pub element_named : (name : List ℕ) (es : List Expr) → element_view (ev.Named name es) ≡ element_step (Element-F.Element::Named name (expr_views es))
element_named name es =
    ap element_view (sym (ev.rolls-Named name es)) ∙ fold-roll-Element BoundsView BuiltinView DimensionView ElementView ExprView NamedOperandView OperandView TypeFormView bounds_step builtin_step dimension_step element_step expr_step named_operand_step operand_step type_form_step (Element-F.Element::Named name es)
    ∙ ap (λ (ys : List ExprView). element_step (Element-F.Element::Named name ys)) (all_expr_views es)

pub element_segment : (el : Element) (b : Bounds) (es : List Expr) → element_view (ev.Segment el b es) ≡ element_step (Element-F.Segment (element_view el) (bounds_view b) (expr_views es))
element_segment el b es =
    ap element_view (sym (ev.rolls-Segment el b es)) ∙ fold-roll-Element BoundsView BuiltinView DimensionView ElementView ExprView NamedOperandView OperandView TypeFormView bounds_step builtin_step dimension_step element_step expr_step named_operand_step operand_step type_form_step (Element-F.Segment el b es)
    ∙ ap (λ (ys : List ExprView). element_step (Element-F.Segment (element_view el) (bounds_view b) ys)) (all_expr_views es)

pub expr_alone : (o : Operand) → expr_view (xv.Alone o) ≡ expr_step (Expr-F.Alone (operand_view o))
expr_alone o =
    ap expr_view (sym (xv.rolls-Alone o)) ∙ fold-roll-Expr BoundsView BuiltinView DimensionView ElementView ExprView NamedOperandView OperandView TypeFormView bounds_step builtin_step dimension_step element_step expr_step named_operand_step operand_step type_form_step (Expr-F.Alone o)

pub expr_run : (operator : RunOperator) (a : Operand) (b : Operand) (os : List Operand) → expr_view (xv.Run operator a b os) ≡ expr_step (Expr-F.Run operator (operand_view a) (operand_view b) (operand_views os))
expr_run operator a b os =
    ap expr_view (sym (xv.rolls-Run operator a b os)) ∙ fold-roll-Expr BoundsView BuiltinView DimensionView ElementView ExprView NamedOperandView OperandView TypeFormView bounds_step builtin_step dimension_step element_step expr_step named_operand_step operand_step type_form_step (Expr-F.Run operator a b os)
    ∙ ap (λ (ys : List OperandView). expr_step (Expr-F.Run operator (operand_view a) (operand_view b) ys)) (all_operand_views os)

pub expr_pair : (a : Operand) (operator : PairOperator) (b : Operand) → expr_view (xv.Pair a operator b) ≡ expr_step (Expr-F.Pair (operand_view a) operator (operand_view b))
expr_pair a operator b =
    ap expr_view (sym (xv.rolls-Pair a operator b)) ∙ fold-roll-Expr BoundsView BuiltinView DimensionView ElementView ExprView NamedOperandView OperandView TypeFormView bounds_step builtin_step dimension_step element_step expr_step named_operand_step operand_step type_form_step (Expr-F.Pair a operator b)

pub expr_applied : (operator : MonadicOperator) (o : Operand) → expr_view (xv.Applied operator o) ≡ expr_step (Expr-F.Applied operator (operand_view o))
expr_applied operator o =
    ap expr_view (sym (xv.rolls-Applied operator o)) ∙ fold-roll-Expr BoundsView BuiltinView DimensionView ElementView ExprView NamedOperandView OperandView TypeFormView bounds_step builtin_step dimension_step element_step expr_step named_operand_step operand_step type_form_step (Expr-F.Applied operator o)

pub expr_converted : (ds : List Dimension) (u : Builtin) (o : Operand) → expr_view (xv.Converted ds u o) ≡ expr_step (Expr-F.Converted (dimension_views ds) (builtin_view u) (operand_view o))
expr_converted ds u o =
    ap expr_view (sym (xv.rolls-Converted ds u o)) ∙ fold-roll-Expr BoundsView BuiltinView DimensionView ElementView ExprView NamedOperandView OperandView TypeFormView bounds_step builtin_step dimension_step element_step expr_step named_operand_step operand_step type_form_step (Expr-F.Converted ds u o)
    ∙ ap (λ (ys : List DimensionView). expr_step (Expr-F.Converted ys (builtin_view u) (operand_view o))) (all_dimension_views ds)

pub expr_array_converted : (d : Dimension) (ds : List Dimension) (name : List ℕ) (o : Operand) → expr_view (xv.ArrayConverted d ds name o) ≡ expr_step (Expr-F.ArrayConverted (dimension_view d) (dimension_views ds) name (operand_view o))
expr_array_converted d ds name o =
    ap expr_view (sym (xv.rolls-ArrayConverted d ds name o)) ∙ fold-roll-Expr BoundsView BuiltinView DimensionView ElementView ExprView NamedOperandView OperandView TypeFormView bounds_step builtin_step dimension_step element_step expr_step named_operand_step operand_step type_form_step (Expr-F.ArrayConverted d ds name o)
    ∙ ap (λ (ys : List DimensionView). expr_step (Expr-F.ArrayConverted (dimension_view d) ys name (operand_view o))) (all_dimension_views ds)

pub expr_named : (name : List ℕ) (o : NamedOperand) → expr_view (xv.Named name o) ≡ expr_step (Expr-F.Expr::Named name (named_operand_view o))
expr_named name o =
    ap expr_view (sym (xv.rolls-Named name o)) ∙ fold-roll-Expr BoundsView BuiltinView DimensionView ElementView ExprView NamedOperandView OperandView TypeFormView bounds_step builtin_step dimension_step element_step expr_step named_operand_step operand_step type_form_step (Expr-F.Expr::Named name o)

pub expr_most : (extreme : Extreme) (ty : TypeForm) → expr_view (xv.Most extreme ty) ≡ expr_step (Expr-F.Most extreme (type_form_view ty))
expr_most extreme ty =
    ap expr_view (sym (xv.rolls-Most extreme ty)) ∙ fold-roll-Expr BoundsView BuiltinView DimensionView ElementView ExprView NamedOperandView OperandView TypeFormView bounds_step builtin_step dimension_step element_step expr_step named_operand_step operand_step type_form_step (Expr-F.Most extreme ty)

pub named_operand_element : (el : Element) → named_operand_view (nv.Element el) ≡ named_operand_step (NamedOperand-F.NamedOperand::Element (element_view el))
named_operand_element el =
    ap named_operand_view (sym (nv.rolls-Element el)) ∙ fold-roll-NamedOperand BoundsView BuiltinView DimensionView ElementView ExprView NamedOperandView OperandView TypeFormView bounds_step builtin_step dimension_step element_step expr_step named_operand_step operand_step type_form_step (NamedOperand-F.NamedOperand::Element el)

pub named_operand_literal : (lit : Literal) → named_operand_view (nv.Literal lit) ≡ named_operand_step (NamedOperand-F.NamedOperand::Literal lit)
named_operand_literal lit =
    ap named_operand_view (sym (nv.rolls-Literal lit)) ∙ fold-roll-NamedOperand BoundsView BuiltinView DimensionView ElementView ExprView NamedOperandView OperandView TypeFormView bounds_step builtin_step dimension_step element_step expr_step named_operand_step operand_step type_form_step (NamedOperand-F.NamedOperand::Literal lit)

pub named_operand_decorated : (lit : Literal) (ty : TypeForm) → named_operand_view (nv.Decorated lit ty) ≡ named_operand_step (NamedOperand-F.NamedOperand::Decorated lit (type_form_view ty))
named_operand_decorated lit ty =
    ap named_operand_view (sym (nv.rolls-Decorated lit ty)) ∙ fold-roll-NamedOperand BoundsView BuiltinView DimensionView ElementView ExprView NamedOperandView OperandView TypeFormView bounds_step builtin_step dimension_step element_step expr_step named_operand_step operand_step type_form_step (NamedOperand-F.NamedOperand::Decorated lit ty)

pub named_operand_truth : (b : Bool) → named_operand_view (nv.Truth b) ≡ named_operand_step (NamedOperand-F.NamedOperand::Truth b)
named_operand_truth b =
    ap named_operand_view (sym (nv.rolls-Truth b)) ∙ fold-roll-NamedOperand BoundsView BuiltinView DimensionView ElementView ExprView NamedOperandView OperandView TypeFormView bounds_step builtin_step dimension_step element_step expr_step named_operand_step operand_step type_form_step (NamedOperand-F.NamedOperand::Truth b)

pub named_operand_table : (e : Expr) (f : Expr) (es : List Expr) → named_operand_view (nv.Table e f es) ≡ named_operand_step (NamedOperand-F.NamedOperand::Table (expr_view e) (expr_view f) (expr_views es))
named_operand_table e f es =
    ap named_operand_view (sym (nv.rolls-Table e f es)) ∙ fold-roll-NamedOperand BoundsView BuiltinView DimensionView ElementView ExprView NamedOperandView OperandView TypeFormView bounds_step builtin_step dimension_step element_step expr_step named_operand_step operand_step type_form_step (NamedOperand-F.NamedOperand::Table e f es)
    ∙ ap (λ (ys : List ExprView). named_operand_step (NamedOperand-F.NamedOperand::Table (expr_view e) (expr_view f) ys)) (all_expr_views es)

pub named_operand_decorated_table : (e : Expr) (es : List Expr) (ty : TypeForm) → named_operand_view (nv.DecoratedTable e es ty) ≡ named_operand_step (NamedOperand-F.NamedOperand::DecoratedTable (expr_view e) (expr_views es) (type_form_view ty))
named_operand_decorated_table e es ty =
    ap named_operand_view (sym (nv.rolls-DecoratedTable e es ty)) ∙ fold-roll-NamedOperand BoundsView BuiltinView DimensionView ElementView ExprView NamedOperandView OperandView TypeFormView bounds_step builtin_step dimension_step element_step expr_step named_operand_step operand_step type_form_step (NamedOperand-F.NamedOperand::DecoratedTable e es ty)
    ∙ ap (λ (ys : List ExprView). named_operand_step (NamedOperand-F.NamedOperand::DecoratedTable (expr_view e) ys (type_form_view ty))) (all_expr_views es)

pub named_operand_call : (name : List ℕ) (es : List Expr) → named_operand_view (nv.Call name es) ≡ named_operand_step (NamedOperand-F.NamedOperand::Call name (expr_views es))
named_operand_call name es =
    ap named_operand_view (sym (nv.rolls-Call name es)) ∙ fold-roll-NamedOperand BoundsView BuiltinView DimensionView ElementView ExprView NamedOperandView OperandView TypeFormView bounds_step builtin_step dimension_step element_step expr_step named_operand_step operand_step type_form_step (NamedOperand-F.NamedOperand::Call name es)
    ∙ ap (λ (ys : List ExprView). named_operand_step (NamedOperand-F.NamedOperand::Call name ys)) (all_expr_views es)

pub operand_element : (el : Element) → operand_view (ov.Element el) ≡ operand_step (Operand-F.Operand::Element (element_view el))
operand_element el =
    ap operand_view (sym (ov.rolls-Element el)) ∙ fold-roll-Operand BoundsView BuiltinView DimensionView ElementView ExprView NamedOperandView OperandView TypeFormView bounds_step builtin_step dimension_step element_step expr_step named_operand_step operand_step type_form_step (Operand-F.Operand::Element el)

pub operand_literal : (lit : Literal) → operand_view (ov.Literal lit) ≡ operand_step (Operand-F.Operand::Literal lit)
operand_literal lit =
    ap operand_view (sym (ov.rolls-Literal lit)) ∙ fold-roll-Operand BoundsView BuiltinView DimensionView ElementView ExprView NamedOperandView OperandView TypeFormView bounds_step builtin_step dimension_step element_step expr_step named_operand_step operand_step type_form_step (Operand-F.Operand::Literal lit)

pub operand_decorated : (lit : Literal) (ty : TypeForm) → operand_view (ov.Decorated lit ty) ≡ operand_step (Operand-F.Operand::Decorated lit (type_form_view ty))
operand_decorated lit ty =
    ap operand_view (sym (ov.rolls-Decorated lit ty)) ∙ fold-roll-Operand BoundsView BuiltinView DimensionView ElementView ExprView NamedOperandView OperandView TypeFormView bounds_step builtin_step dimension_step element_step expr_step named_operand_step operand_step type_form_step (Operand-F.Operand::Decorated lit ty)

pub operand_truth : (b : Bool) → operand_view (ov.Truth b) ≡ operand_step (Operand-F.Operand::Truth b)
operand_truth b =
    ap operand_view (sym (ov.rolls-Truth b)) ∙ fold-roll-Operand BoundsView BuiltinView DimensionView ElementView ExprView NamedOperandView OperandView TypeFormView bounds_step builtin_step dimension_step element_step expr_step named_operand_step operand_step type_form_step (Operand-F.Operand::Truth b)

pub operand_parens : (e : Expr) → operand_view (ov.Parens e) ≡ operand_step (Operand-F.Parens (expr_view e))
operand_parens e =
    ap operand_view (sym (ov.rolls-Parens e)) ∙ fold-roll-Operand BoundsView BuiltinView DimensionView ElementView ExprView NamedOperandView OperandView TypeFormView bounds_step builtin_step dimension_step element_step expr_step named_operand_step operand_step type_form_step (Operand-F.Parens e)

pub operand_table : (e : Expr) (es : List Expr) → operand_view (ov.Table e es) ≡ operand_step (Operand-F.Operand::Table (expr_view e) (expr_views es))
operand_table e es =
    ap operand_view (sym (ov.rolls-Table e es)) ∙ fold-roll-Operand BoundsView BuiltinView DimensionView ElementView ExprView NamedOperandView OperandView TypeFormView bounds_step builtin_step dimension_step element_step expr_step named_operand_step operand_step type_form_step (Operand-F.Operand::Table e es)
    ∙ ap (λ (ys : List ExprView). operand_step (Operand-F.Operand::Table (expr_view e) ys)) (all_expr_views es)

pub operand_decorated_table : (e : Expr) (es : List Expr) (ty : TypeForm) → operand_view (ov.DecoratedTable e es ty) ≡ operand_step (Operand-F.Operand::DecoratedTable (expr_view e) (expr_views es) (type_form_view ty))
operand_decorated_table e es ty =
    ap operand_view (sym (ov.rolls-DecoratedTable e es ty)) ∙ fold-roll-Operand BoundsView BuiltinView DimensionView ElementView ExprView NamedOperandView OperandView TypeFormView bounds_step builtin_step dimension_step element_step expr_step named_operand_step operand_step type_form_step (Operand-F.Operand::DecoratedTable e es ty)
    ∙ ap (λ (ys : List ExprView). operand_step (Operand-F.Operand::DecoratedTable (expr_view e) ys (type_form_view ty))) (all_expr_views es)

pub operand_call : (name : List ℕ) (es : List Expr) → operand_view (ov.Call name es) ≡ operand_step (Operand-F.Operand::Call name (expr_views es))
operand_call name es =
    ap operand_view (sym (ov.rolls-Call name es)) ∙ fold-roll-Operand BoundsView BuiltinView DimensionView ElementView ExprView NamedOperandView OperandView TypeFormView bounds_step builtin_step dimension_step element_step expr_step named_operand_step operand_step type_form_step (Operand-F.Operand::Call name es)
    ∙ ap (λ (ys : List ExprView). operand_step (Operand-F.Operand::Call name ys)) (all_expr_views es)

pub type_form_named : (ds : List Dimension) (name : List ℕ) → type_form_view (tv.Named ds name) ≡ type_form_step (TypeForm-F.TypeForm::Named (dimension_views ds) name)
type_form_named ds name =
    ap type_form_view (sym (tv.rolls-Named ds name)) ∙ fold-roll-TypeForm BoundsView BuiltinView DimensionView ElementView ExprView NamedOperandView OperandView TypeFormView bounds_step builtin_step dimension_step element_step expr_step named_operand_step operand_step type_form_step (TypeForm-F.TypeForm::Named ds name)
    ∙ ap (λ (ys : List DimensionView). type_form_step (TypeForm-F.TypeForm::Named ys name)) (all_dimension_views ds)

pub type_form_builtin : (ds : List Dimension) (u : Builtin) → type_form_view (tv.Builtin ds u) ≡ type_form_step (TypeForm-F.Builtin (dimension_views ds) (builtin_view u))
type_form_builtin ds u =
    ap type_form_view (sym (tv.rolls-Builtin ds u)) ∙ fold-roll-TypeForm BoundsView BuiltinView DimensionView ElementView ExprView NamedOperandView OperandView TypeFormView bounds_step builtin_step dimension_step element_step expr_step named_operand_step operand_step type_form_step (TypeForm-F.Builtin ds u)
    ∙ ap (λ (ys : List DimensionView). type_form_step (TypeForm-F.Builtin ys (builtin_view u))) (all_dimension_views ds)

pub bounds_from_said : (e : Expr) (s : Scope) → (bounds_view (bv.From e)).said s ≡ (bounds_step (Bounds-F.From (expr_view e))).said s
bounds_from_said e s = ap (λ (v : BoundsView). v.said s) (bounds_from e)

pub bounds_for_said : (e : Expr) (s : Scope) → (bounds_view (bv.For e)).said s ≡ (bounds_step (Bounds-F.For (expr_view e))).said s
bounds_for_said e s = ap (λ (v : BoundsView). v.said s) (bounds_for e)

pub bounds_from_for_said : (e : Expr) (f : Expr) (s : Scope) → (bounds_view (bv.FromFor e f)).said s ≡ (bounds_step (Bounds-F.FromFor (expr_view e) (expr_view f))).said s
bounds_from_for_said e f s = ap (λ (v : BoundsView). v.said s) (bounds_from_for e f)

pub builtin_primitive_view : (w : PrimitiveWord) (s : Scope) → builtin_view (uv.Primitive w) s ≡ builtin_step (Builtin-F.Primitive w) s
builtin_primitive_view w s = ap (λ (v : BuiltinView). v s) (builtin_primitive w)

pub builtin_timer_view : (s : Scope) → builtin_view uv.Timer s ≡ builtin_step Builtin-F.Timer s
builtin_timer_view s = ap (λ (v : BuiltinView). v s) builtin_timer

pub builtin_any_channel_view : (words : ChannelWords) (s : Scope) → builtin_view (uv.AnyChannel words) s ≡ builtin_step (Builtin-F.AnyChannel words) s
builtin_any_channel_view words s = ap (λ (v : BuiltinView). v s) (builtin_any_channel words)

pub builtin_channel_view : (words : ChannelWords) (ds : List Dimension) (base : DataBase) (s : Scope) → builtin_view (uv.Channel words ds base) s ≡ builtin_step (Builtin-F.Channel words (dimension_views ds) base) s
builtin_channel_view words ds base s = ap (λ (v : BuiltinView). v s) (builtin_channel words ds base)

pub builtin_counted_view : (words : ChannelWords) (ds : List Dimension) (base : DataBase) (es : List Dimension) (other : DataBase) (s : Scope) → builtin_view (uv.Counted words ds base es other) s ≡ builtin_step (Builtin-F.Counted words (dimension_views ds) base (dimension_views es) other) s
builtin_counted_view words ds base es other s = ap (λ (v : BuiltinView). v s) (builtin_counted words ds base es other)

pub dimension_open_view : (o : Opening) (s : Scope) → dimension_view dv.Open o s ≡ dimension_step Dimension-F.Open o s
dimension_open_view o s = ap (λ (v : DimensionView). v o s) dimension_open

pub dimension_sized_view : (e : Expr) (o : Opening) (s : Scope) → dimension_view (dv.Sized e) o s ≡ dimension_step (Dimension-F.Sized (expr_view e)) o s
dimension_sized_view e o s = ap (λ (v : DimensionView). v o s) (dimension_sized e)

pub element_named_name : (name : List ℕ) (es : List Expr) → (element_view (ev.Named name es)).name ≡ (element_step (Element-F.Element::Named name (expr_views es))).name
element_named_name name es = ap (λ (v : ElementView). v.name) (element_named name es)

pub element_named_reported : (name : List ℕ) (es : List Expr) (s : Scope) → (element_view (ev.Named name es)).reported s ≡ (element_step (Element-F.Element::Named name (expr_views es))).reported s
element_named_reported name es s = ap (λ (v : ElementView). v.reported s) (element_named name es)

pub element_named_whole : (name : List ℕ) (es : List Expr) (s : Scope) → (element_view (ev.Named name es)).whole s ≡ (element_step (Element-F.Element::Named name (expr_views es))).whole s
element_named_whole name es s = ap (λ (v : ElementView). v.whole s) (element_named name es)

pub element_segment_name : (el : Element) (b : Bounds) (es : List Expr) → (element_view (ev.Segment el b es)).name ≡ (element_step (Element-F.Segment (element_view el) (bounds_view b) (expr_views es))).name
element_segment_name el b es = ap (λ (v : ElementView). v.name) (element_segment el b es)

pub element_segment_reported : (el : Element) (b : Bounds) (es : List Expr) (s : Scope) → (element_view (ev.Segment el b es)).reported s ≡ (element_step (Element-F.Segment (element_view el) (bounds_view b) (expr_views es))).reported s
element_segment_reported el b es s = ap (λ (v : ElementView). v.reported s) (element_segment el b es)

pub element_segment_whole : (el : Element) (b : Bounds) (es : List Expr) (s : Scope) → (element_view (ev.Segment el b es)).whole s ≡ (element_step (Element-F.Segment (element_view el) (bounds_view b) (expr_views es))).whole s
element_segment_whole el b es s = ap (λ (v : ElementView). v.whole s) (element_segment el b es)

pub expr_alone_name : (o : Operand) → (expr_view (xv.Alone o)).name ≡ (expr_step (Expr-F.Alone (operand_view o))).name
expr_alone_name o = ap (λ (v : ExprView). v.name) (expr_alone o)

pub expr_alone_said : (o : Operand) (s : Scope) → (expr_view (xv.Alone o)).said s ≡ (expr_step (Expr-F.Alone (operand_view o))).said s
expr_alone_said o s = ap (λ (v : ExprView). v.said s) (expr_alone o)

pub expr_run_name : (operator : RunOperator) (a : Operand) (b : Operand) (os : List Operand) → (expr_view (xv.Run operator a b os)).name ≡ (expr_step (Expr-F.Run operator (operand_view a) (operand_view b) (operand_views os))).name
expr_run_name operator a b os = ap (λ (v : ExprView). v.name) (expr_run operator a b os)

pub expr_run_said : (operator : RunOperator) (a : Operand) (b : Operand) (os : List Operand) (s : Scope) → (expr_view (xv.Run operator a b os)).said s ≡ (expr_step (Expr-F.Run operator (operand_view a) (operand_view b) (operand_views os))).said s
expr_run_said operator a b os s = ap (λ (v : ExprView). v.said s) (expr_run operator a b os)

pub expr_pair_name : (a : Operand) (operator : PairOperator) (b : Operand) → (expr_view (xv.Pair a operator b)).name ≡ (expr_step (Expr-F.Pair (operand_view a) operator (operand_view b))).name
expr_pair_name a operator b = ap (λ (v : ExprView). v.name) (expr_pair a operator b)

pub expr_pair_said : (a : Operand) (operator : PairOperator) (b : Operand) (s : Scope) → (expr_view (xv.Pair a operator b)).said s ≡ (expr_step (Expr-F.Pair (operand_view a) operator (operand_view b))).said s
expr_pair_said a operator b s = ap (λ (v : ExprView). v.said s) (expr_pair a operator b)

pub expr_applied_name : (operator : MonadicOperator) (o : Operand) → (expr_view (xv.Applied operator o)).name ≡ (expr_step (Expr-F.Applied operator (operand_view o))).name
expr_applied_name operator o = ap (λ (v : ExprView). v.name) (expr_applied operator o)

pub expr_applied_said : (operator : MonadicOperator) (o : Operand) (s : Scope) → (expr_view (xv.Applied operator o)).said s ≡ (expr_step (Expr-F.Applied operator (operand_view o))).said s
expr_applied_said operator o s = ap (λ (v : ExprView). v.said s) (expr_applied operator o)

pub expr_converted_name : (ds : List Dimension) (u : Builtin) (o : Operand) → (expr_view (xv.Converted ds u o)).name ≡ (expr_step (Expr-F.Converted (dimension_views ds) (builtin_view u) (operand_view o))).name
expr_converted_name ds u o = ap (λ (v : ExprView). v.name) (expr_converted ds u o)

pub expr_converted_said : (ds : List Dimension) (u : Builtin) (o : Operand) (s : Scope) → (expr_view (xv.Converted ds u o)).said s ≡ (expr_step (Expr-F.Converted (dimension_views ds) (builtin_view u) (operand_view o))).said s
expr_converted_said ds u o s = ap (λ (v : ExprView). v.said s) (expr_converted ds u o)

pub expr_array_converted_name : (d : Dimension) (ds : List Dimension) (name : List ℕ) (o : Operand) → (expr_view (xv.ArrayConverted d ds name o)).name ≡ (expr_step (Expr-F.ArrayConverted (dimension_view d) (dimension_views ds) name (operand_view o))).name
expr_array_converted_name d ds name o = ap (λ (v : ExprView). v.name) (expr_array_converted d ds name o)

pub expr_array_converted_said : (d : Dimension) (ds : List Dimension) (name : List ℕ) (o : Operand) (s : Scope) → (expr_view (xv.ArrayConverted d ds name o)).said s ≡ (expr_step (Expr-F.ArrayConverted (dimension_view d) (dimension_views ds) name (operand_view o))).said s
expr_array_converted_said d ds name o s = ap (λ (v : ExprView). v.said s) (expr_array_converted d ds name o)

pub expr_named_name : (name : List ℕ) (o : NamedOperand) → (expr_view (xv.Named name o)).name ≡ (expr_step (Expr-F.Expr::Named name (named_operand_view o))).name
expr_named_name name o = ap (λ (v : ExprView). v.name) (expr_named name o)

pub expr_named_said : (name : List ℕ) (o : NamedOperand) (s : Scope) → (expr_view (xv.Named name o)).said s ≡ (expr_step (Expr-F.Expr::Named name (named_operand_view o))).said s
expr_named_said name o s = ap (λ (v : ExprView). v.said s) (expr_named name o)

pub expr_most_name : (extreme : Extreme) (ty : TypeForm) → (expr_view (xv.Most extreme ty)).name ≡ (expr_step (Expr-F.Most extreme (type_form_view ty))).name
expr_most_name extreme ty = ap (λ (v : ExprView). v.name) (expr_most extreme ty)

pub expr_most_said : (extreme : Extreme) (ty : TypeForm) (s : Scope) → (expr_view (xv.Most extreme ty)).said s ≡ (expr_step (Expr-F.Most extreme (type_form_view ty))).said s
expr_most_said extreme ty s = ap (λ (v : ExprView). v.said s) (expr_most extreme ty)

pub named_operand_element_said : (el : Element) (s : Scope) → (named_operand_view (nv.Element el)).said s ≡ (named_operand_step (NamedOperand-F.NamedOperand::Element (element_view el))).said s
named_operand_element_said el s = ap (λ (v : NamedOperandView). v.said s) (named_operand_element el)

pub named_operand_literal_said : (lit : Literal) (s : Scope) → (named_operand_view (nv.Literal lit)).said s ≡ (named_operand_step (NamedOperand-F.NamedOperand::Literal lit)).said s
named_operand_literal_said lit s = ap (λ (v : NamedOperandView). v.said s) (named_operand_literal lit)

pub named_operand_decorated_said : (lit : Literal) (ty : TypeForm) (s : Scope) → (named_operand_view (nv.Decorated lit ty)).said s ≡ (named_operand_step (NamedOperand-F.NamedOperand::Decorated lit (type_form_view ty))).said s
named_operand_decorated_said lit ty s = ap (λ (v : NamedOperandView). v.said s) (named_operand_decorated lit ty)

pub named_operand_truth_said : (b : Bool) (s : Scope) → (named_operand_view (nv.Truth b)).said s ≡ (named_operand_step (NamedOperand-F.NamedOperand::Truth b)).said s
named_operand_truth_said b s = ap (λ (v : NamedOperandView). v.said s) (named_operand_truth b)

pub named_operand_table_said : (e : Expr) (f : Expr) (es : List Expr) (s : Scope) → (named_operand_view (nv.Table e f es)).said s ≡ (named_operand_step (NamedOperand-F.NamedOperand::Table (expr_view e) (expr_view f) (expr_views es))).said s
named_operand_table_said e f es s = ap (λ (v : NamedOperandView). v.said s) (named_operand_table e f es)

pub named_operand_decorated_table_said : (e : Expr) (es : List Expr) (ty : TypeForm) (s : Scope) → (named_operand_view (nv.DecoratedTable e es ty)).said s ≡ (named_operand_step (NamedOperand-F.NamedOperand::DecoratedTable (expr_view e) (expr_views es) (type_form_view ty))).said s
named_operand_decorated_table_said e es ty s = ap (λ (v : NamedOperandView). v.said s) (named_operand_decorated_table e es ty)

pub named_operand_call_said : (name : List ℕ) (es : List Expr) (s : Scope) → (named_operand_view (nv.Call name es)).said s ≡ (named_operand_step (NamedOperand-F.NamedOperand::Call name (expr_views es))).said s
named_operand_call_said name es s = ap (λ (v : NamedOperandView). v.said s) (named_operand_call name es)

pub operand_element_name : (el : Element) → (operand_view (ov.Element el)).name ≡ (operand_step (Operand-F.Operand::Element (element_view el))).name
operand_element_name el = ap (λ (v : OperandView). v.name) (operand_element el)

pub operand_element_digits : (el : Element) → (operand_view (ov.Element el)).digits ≡ (operand_step (Operand-F.Operand::Element (element_view el))).digits
operand_element_digits el = ap (λ (v : OperandView). v.digits) (operand_element el)

pub operand_element_said : (el : Element) (s : Scope) → (operand_view (ov.Element el)).said s ≡ (operand_step (Operand-F.Operand::Element (element_view el))).said s
operand_element_said el s = ap (λ (v : OperandView). v.said s) (operand_element el)

pub operand_element_whole : (el : Element) (s : Scope) → (operand_view (ov.Element el)).whole s ≡ (operand_step (Operand-F.Operand::Element (element_view el))).whole s
operand_element_whole el s = ap (λ (v : OperandView). v.whole s) (operand_element el)

pub operand_literal_name : (lit : Literal) → (operand_view (ov.Literal lit)).name ≡ (operand_step (Operand-F.Operand::Literal lit)).name
operand_literal_name lit = ap (λ (v : OperandView). v.name) (operand_literal lit)

pub operand_literal_digits : (lit : Literal) → (operand_view (ov.Literal lit)).digits ≡ (operand_step (Operand-F.Operand::Literal lit)).digits
operand_literal_digits lit = ap (λ (v : OperandView). v.digits) (operand_literal lit)

pub operand_literal_said : (lit : Literal) (s : Scope) → (operand_view (ov.Literal lit)).said s ≡ (operand_step (Operand-F.Operand::Literal lit)).said s
operand_literal_said lit s = ap (λ (v : OperandView). v.said s) (operand_literal lit)

pub operand_literal_whole : (lit : Literal) (s : Scope) → (operand_view (ov.Literal lit)).whole s ≡ (operand_step (Operand-F.Operand::Literal lit)).whole s
operand_literal_whole lit s = ap (λ (v : OperandView). v.whole s) (operand_literal lit)

pub operand_decorated_name : (lit : Literal) (ty : TypeForm) → (operand_view (ov.Decorated lit ty)).name ≡ (operand_step (Operand-F.Operand::Decorated lit (type_form_view ty))).name
operand_decorated_name lit ty = ap (λ (v : OperandView). v.name) (operand_decorated lit ty)

pub operand_decorated_digits : (lit : Literal) (ty : TypeForm) → (operand_view (ov.Decorated lit ty)).digits ≡ (operand_step (Operand-F.Operand::Decorated lit (type_form_view ty))).digits
operand_decorated_digits lit ty = ap (λ (v : OperandView). v.digits) (operand_decorated lit ty)

pub operand_decorated_said : (lit : Literal) (ty : TypeForm) (s : Scope) → (operand_view (ov.Decorated lit ty)).said s ≡ (operand_step (Operand-F.Operand::Decorated lit (type_form_view ty))).said s
operand_decorated_said lit ty s = ap (λ (v : OperandView). v.said s) (operand_decorated lit ty)

pub operand_decorated_whole : (lit : Literal) (ty : TypeForm) (s : Scope) → (operand_view (ov.Decorated lit ty)).whole s ≡ (operand_step (Operand-F.Operand::Decorated lit (type_form_view ty))).whole s
operand_decorated_whole lit ty s = ap (λ (v : OperandView). v.whole s) (operand_decorated lit ty)

pub operand_truth_name : (b : Bool) → (operand_view (ov.Truth b)).name ≡ (operand_step (Operand-F.Operand::Truth b)).name
operand_truth_name b = ap (λ (v : OperandView). v.name) (operand_truth b)

pub operand_truth_digits : (b : Bool) → (operand_view (ov.Truth b)).digits ≡ (operand_step (Operand-F.Operand::Truth b)).digits
operand_truth_digits b = ap (λ (v : OperandView). v.digits) (operand_truth b)

pub operand_truth_said : (b : Bool) (s : Scope) → (operand_view (ov.Truth b)).said s ≡ (operand_step (Operand-F.Operand::Truth b)).said s
operand_truth_said b s = ap (λ (v : OperandView). v.said s) (operand_truth b)

pub operand_truth_whole : (b : Bool) (s : Scope) → (operand_view (ov.Truth b)).whole s ≡ (operand_step (Operand-F.Operand::Truth b)).whole s
operand_truth_whole b s = ap (λ (v : OperandView). v.whole s) (operand_truth b)

pub operand_parens_name : (e : Expr) → (operand_view (ov.Parens e)).name ≡ (operand_step (Operand-F.Parens (expr_view e))).name
operand_parens_name e = ap (λ (v : OperandView). v.name) (operand_parens e)

pub operand_parens_digits : (e : Expr) → (operand_view (ov.Parens e)).digits ≡ (operand_step (Operand-F.Parens (expr_view e))).digits
operand_parens_digits e = ap (λ (v : OperandView). v.digits) (operand_parens e)

pub operand_parens_said : (e : Expr) (s : Scope) → (operand_view (ov.Parens e)).said s ≡ (operand_step (Operand-F.Parens (expr_view e))).said s
operand_parens_said e s = ap (λ (v : OperandView). v.said s) (operand_parens e)

pub operand_parens_whole : (e : Expr) (s : Scope) → (operand_view (ov.Parens e)).whole s ≡ (operand_step (Operand-F.Parens (expr_view e))).whole s
operand_parens_whole e s = ap (λ (v : OperandView). v.whole s) (operand_parens e)

pub operand_table_name : (e : Expr) (es : List Expr) → (operand_view (ov.Table e es)).name ≡ (operand_step (Operand-F.Operand::Table (expr_view e) (expr_views es))).name
operand_table_name e es = ap (λ (v : OperandView). v.name) (operand_table e es)

pub operand_table_digits : (e : Expr) (es : List Expr) → (operand_view (ov.Table e es)).digits ≡ (operand_step (Operand-F.Operand::Table (expr_view e) (expr_views es))).digits
operand_table_digits e es = ap (λ (v : OperandView). v.digits) (operand_table e es)

pub operand_table_said : (e : Expr) (es : List Expr) (s : Scope) → (operand_view (ov.Table e es)).said s ≡ (operand_step (Operand-F.Operand::Table (expr_view e) (expr_views es))).said s
operand_table_said e es s = ap (λ (v : OperandView). v.said s) (operand_table e es)

pub operand_table_whole : (e : Expr) (es : List Expr) (s : Scope) → (operand_view (ov.Table e es)).whole s ≡ (operand_step (Operand-F.Operand::Table (expr_view e) (expr_views es))).whole s
operand_table_whole e es s = ap (λ (v : OperandView). v.whole s) (operand_table e es)

pub operand_decorated_table_name : (e : Expr) (es : List Expr) (ty : TypeForm) → (operand_view (ov.DecoratedTable e es ty)).name ≡ (operand_step (Operand-F.Operand::DecoratedTable (expr_view e) (expr_views es) (type_form_view ty))).name
operand_decorated_table_name e es ty = ap (λ (v : OperandView). v.name) (operand_decorated_table e es ty)

pub operand_decorated_table_digits : (e : Expr) (es : List Expr) (ty : TypeForm) → (operand_view (ov.DecoratedTable e es ty)).digits ≡ (operand_step (Operand-F.Operand::DecoratedTable (expr_view e) (expr_views es) (type_form_view ty))).digits
operand_decorated_table_digits e es ty = ap (λ (v : OperandView). v.digits) (operand_decorated_table e es ty)

pub operand_decorated_table_said : (e : Expr) (es : List Expr) (ty : TypeForm) (s : Scope) → (operand_view (ov.DecoratedTable e es ty)).said s ≡ (operand_step (Operand-F.Operand::DecoratedTable (expr_view e) (expr_views es) (type_form_view ty))).said s
operand_decorated_table_said e es ty s = ap (λ (v : OperandView). v.said s) (operand_decorated_table e es ty)

pub operand_decorated_table_whole : (e : Expr) (es : List Expr) (ty : TypeForm) (s : Scope) → (operand_view (ov.DecoratedTable e es ty)).whole s ≡ (operand_step (Operand-F.Operand::DecoratedTable (expr_view e) (expr_views es) (type_form_view ty))).whole s
operand_decorated_table_whole e es ty s = ap (λ (v : OperandView). v.whole s) (operand_decorated_table e es ty)

pub operand_call_name : (name : List ℕ) (es : List Expr) → (operand_view (ov.Call name es)).name ≡ (operand_step (Operand-F.Operand::Call name (expr_views es))).name
operand_call_name name es = ap (λ (v : OperandView). v.name) (operand_call name es)

pub operand_call_digits : (name : List ℕ) (es : List Expr) → (operand_view (ov.Call name es)).digits ≡ (operand_step (Operand-F.Operand::Call name (expr_views es))).digits
operand_call_digits name es = ap (λ (v : OperandView). v.digits) (operand_call name es)

pub operand_call_said : (name : List ℕ) (es : List Expr) (s : Scope) → (operand_view (ov.Call name es)).said s ≡ (operand_step (Operand-F.Operand::Call name (expr_views es))).said s
operand_call_said name es s = ap (λ (v : OperandView). v.said s) (operand_call name es)

pub operand_call_whole : (name : List ℕ) (es : List Expr) (s : Scope) → (operand_view (ov.Call name es)).whole s ≡ (operand_step (Operand-F.Operand::Call name (expr_views es))).whole s
operand_call_whole name es s = ap (λ (v : OperandView). v.whole s) (operand_call name es)

pub type_form_named_view : (ds : List Dimension) (name : List ℕ) (o : Opening) (s : Scope) → type_form_view (tv.Named ds name) o s ≡ type_form_step (TypeForm-F.TypeForm::Named (dimension_views ds) name) o s
type_form_named_view ds name o s = ap (λ (v : TypeFormView). v o s) (type_form_named ds name)

pub type_form_builtin_view : (ds : List Dimension) (u : Builtin) (o : Opening) (s : Scope) → type_form_view (tv.Builtin ds u) o s ≡ type_form_step (TypeForm-F.Builtin (dimension_views ds) (builtin_view u)) o s
type_form_builtin_view ds u o s = ap (λ (v : TypeFormView). v o s) (type_form_builtin ds u)

pub bounds_from_tree : (e : Expr) (s : Scope) (n : Option ℕ) → (bounds_view (bv.From e)).tree s n ≡ (bounds_step (Bounds-F.From (expr_view e))).tree s n
bounds_from_tree e s n = ap (λ (v : BoundsView). v.tree s n) (bounds_from e)

pub bounds_for_tree : (e : Expr) (s : Scope) (n : Option ℕ) → (bounds_view (bv.For e)).tree s n ≡ (bounds_step (Bounds-F.For (expr_view e))).tree s n
bounds_for_tree e s n = ap (λ (v : BoundsView). v.tree s n) (bounds_for e)

pub bounds_from_for_tree : (e : Expr) (f : Expr) (s : Scope) (n : Option ℕ) → (bounds_view (bv.FromFor e f)).tree s n ≡ (bounds_step (Bounds-F.FromFor (expr_view e) (expr_view f))).tree s n
bounds_from_for_tree e f s n = ap (λ (v : BoundsView). v.tree s n) (bounds_from_for e f)

pub element_named_tree : (name : List ℕ) (es : List Expr) (s : Scope) → (element_view (ev.Named name es)).tree s ≡ (element_step (Element-F.Element::Named name (expr_views es))).tree s
element_named_tree name es s = ap (λ (v : ElementView). v.tree s) (element_named name es)

pub element_named_whole_open : (name : List ℕ) (es : List Expr) (s : Scope) → (element_view (ev.Named name es)).whole_open s ≡ (element_step (Element-F.Element::Named name (expr_views es))).whole_open s
element_named_whole_open name es s = ap (λ (v : ElementView). v.whole_open s) (element_named name es)

pub element_segment_tree : (el : Element) (b : Bounds) (es : List Expr) (s : Scope) → (element_view (ev.Segment el b es)).tree s ≡ (element_step (Element-F.Segment (element_view el) (bounds_view b) (expr_views es))).tree s
element_segment_tree el b es s = ap (λ (v : ElementView). v.tree s) (element_segment el b es)

pub element_segment_whole_open : (el : Element) (b : Bounds) (es : List Expr) (s : Scope) → (element_view (ev.Segment el b es)).whole_open s ≡ (element_step (Element-F.Segment (element_view el) (bounds_view b) (expr_views es))).whole_open s
element_segment_whole_open el b es s = ap (λ (v : ElementView). v.whole_open s) (element_segment el b es)

pub expr_alone_open : (o : Operand) (s : Scope) → (expr_view (xv.Alone o)).open_expr s ≡ (expr_step (Expr-F.Alone (operand_view o))).open_expr s
expr_alone_open o s = ap (λ (v : ExprView). v.open_expr s) (expr_alone o)

pub expr_run_open : (operator : RunOperator) (a : Operand) (b : Operand) (os : List Operand) (s : Scope) → (expr_view (xv.Run operator a b os)).open_expr s ≡ (expr_step (Expr-F.Run operator (operand_view a) (operand_view b) (operand_views os))).open_expr s
expr_run_open operator a b os s = ap (λ (v : ExprView). v.open_expr s) (expr_run operator a b os)

pub expr_pair_open : (a : Operand) (operator : PairOperator) (b : Operand) (s : Scope) → (expr_view (xv.Pair a operator b)).open_expr s ≡ (expr_step (Expr-F.Pair (operand_view a) operator (operand_view b))).open_expr s
expr_pair_open a operator b s = ap (λ (v : ExprView). v.open_expr s) (expr_pair a operator b)

pub expr_applied_open : (operator : MonadicOperator) (o : Operand) (s : Scope) → (expr_view (xv.Applied operator o)).open_expr s ≡ (expr_step (Expr-F.Applied operator (operand_view o))).open_expr s
expr_applied_open operator o s = ap (λ (v : ExprView). v.open_expr s) (expr_applied operator o)

pub expr_converted_open : (ds : List Dimension) (u : Builtin) (o : Operand) (s : Scope) → (expr_view (xv.Converted ds u o)).open_expr s ≡ (expr_step (Expr-F.Converted (dimension_views ds) (builtin_view u) (operand_view o))).open_expr s
expr_converted_open ds u o s = ap (λ (v : ExprView). v.open_expr s) (expr_converted ds u o)

pub expr_array_converted_open : (d : Dimension) (ds : List Dimension) (name : List ℕ) (o : Operand) (s : Scope) → (expr_view (xv.ArrayConverted d ds name o)).open_expr s ≡ (expr_step (Expr-F.ArrayConverted (dimension_view d) (dimension_views ds) name (operand_view o))).open_expr s
expr_array_converted_open d ds name o s = ap (λ (v : ExprView). v.open_expr s) (expr_array_converted d ds name o)

pub expr_named_open : (name : List ℕ) (o : NamedOperand) (s : Scope) → (expr_view (xv.Named name o)).open_expr s ≡ (expr_step (Expr-F.Expr::Named name (named_operand_view o))).open_expr s
expr_named_open name o s = ap (λ (v : ExprView). v.open_expr s) (expr_named name o)

pub expr_most_open : (extreme : Extreme) (ty : TypeForm) (s : Scope) → (expr_view (xv.Most extreme ty)).open_expr s ≡ (expr_step (Expr-F.Most extreme (type_form_view ty))).open_expr s
expr_most_open extreme ty s = ap (λ (v : ExprView). v.open_expr s) (expr_most extreme ty)

pub named_operand_element_open : (el : Element) (s : Scope) → (named_operand_view (nv.Element el)).open_expr s ≡ (named_operand_step (NamedOperand-F.NamedOperand::Element (element_view el))).open_expr s
named_operand_element_open el s = ap (λ (v : NamedOperandView). v.open_expr s) (named_operand_element el)

pub named_operand_literal_open : (lit : Literal) (s : Scope) → (named_operand_view (nv.Literal lit)).open_expr s ≡ (named_operand_step (NamedOperand-F.NamedOperand::Literal lit)).open_expr s
named_operand_literal_open lit s = ap (λ (v : NamedOperandView). v.open_expr s) (named_operand_literal lit)

pub named_operand_decorated_open : (lit : Literal) (ty : TypeForm) (s : Scope) → (named_operand_view (nv.Decorated lit ty)).open_expr s ≡ (named_operand_step (NamedOperand-F.NamedOperand::Decorated lit (type_form_view ty))).open_expr s
named_operand_decorated_open lit ty s = ap (λ (v : NamedOperandView). v.open_expr s) (named_operand_decorated lit ty)

pub named_operand_truth_open : (b : Bool) (s : Scope) → (named_operand_view (nv.Truth b)).open_expr s ≡ (named_operand_step (NamedOperand-F.NamedOperand::Truth b)).open_expr s
named_operand_truth_open b s = ap (λ (v : NamedOperandView). v.open_expr s) (named_operand_truth b)

pub named_operand_table_open : (e : Expr) (f : Expr) (es : List Expr) (s : Scope) → (named_operand_view (nv.Table e f es)).open_expr s ≡ (named_operand_step (NamedOperand-F.NamedOperand::Table (expr_view e) (expr_view f) (expr_views es))).open_expr s
named_operand_table_open e f es s = ap (λ (v : NamedOperandView). v.open_expr s) (named_operand_table e f es)

pub named_operand_decorated_table_open : (e : Expr) (es : List Expr) (ty : TypeForm) (s : Scope) → (named_operand_view (nv.DecoratedTable e es ty)).open_expr s ≡ (named_operand_step (NamedOperand-F.NamedOperand::DecoratedTable (expr_view e) (expr_views es) (type_form_view ty))).open_expr s
named_operand_decorated_table_open e es ty s = ap (λ (v : NamedOperandView). v.open_expr s) (named_operand_decorated_table e es ty)

pub named_operand_call_open : (name : List ℕ) (es : List Expr) (s : Scope) → (named_operand_view (nv.Call name es)).open_expr s ≡ (named_operand_step (NamedOperand-F.NamedOperand::Call name (expr_views es))).open_expr s
named_operand_call_open name es s = ap (λ (v : NamedOperandView). v.open_expr s) (named_operand_call name es)

pub operand_element_open : (el : Element) (s : Scope) → (operand_view (ov.Element el)).open_expr s ≡ (operand_step (Operand-F.Operand::Element (element_view el))).open_expr s
operand_element_open el s = ap (λ (v : OperandView). v.open_expr s) (operand_element el)

pub operand_element_whole_open : (el : Element) (s : Scope) → (operand_view (ov.Element el)).whole_open s ≡ (operand_step (Operand-F.Operand::Element (element_view el))).whole_open s
operand_element_whole_open el s = ap (λ (v : OperandView). v.whole_open s) (operand_element el)

pub operand_literal_open : (lit : Literal) (s : Scope) → (operand_view (ov.Literal lit)).open_expr s ≡ (operand_step (Operand-F.Operand::Literal lit)).open_expr s
operand_literal_open lit s = ap (λ (v : OperandView). v.open_expr s) (operand_literal lit)

pub operand_literal_whole_open : (lit : Literal) (s : Scope) → (operand_view (ov.Literal lit)).whole_open s ≡ (operand_step (Operand-F.Operand::Literal lit)).whole_open s
operand_literal_whole_open lit s = ap (λ (v : OperandView). v.whole_open s) (operand_literal lit)

pub operand_decorated_open : (lit : Literal) (ty : TypeForm) (s : Scope) → (operand_view (ov.Decorated lit ty)).open_expr s ≡ (operand_step (Operand-F.Operand::Decorated lit (type_form_view ty))).open_expr s
operand_decorated_open lit ty s = ap (λ (v : OperandView). v.open_expr s) (operand_decorated lit ty)

pub operand_decorated_whole_open : (lit : Literal) (ty : TypeForm) (s : Scope) → (operand_view (ov.Decorated lit ty)).whole_open s ≡ (operand_step (Operand-F.Operand::Decorated lit (type_form_view ty))).whole_open s
operand_decorated_whole_open lit ty s = ap (λ (v : OperandView). v.whole_open s) (operand_decorated lit ty)

pub operand_truth_open : (b : Bool) (s : Scope) → (operand_view (ov.Truth b)).open_expr s ≡ (operand_step (Operand-F.Operand::Truth b)).open_expr s
operand_truth_open b s = ap (λ (v : OperandView). v.open_expr s) (operand_truth b)

pub operand_truth_whole_open : (b : Bool) (s : Scope) → (operand_view (ov.Truth b)).whole_open s ≡ (operand_step (Operand-F.Operand::Truth b)).whole_open s
operand_truth_whole_open b s = ap (λ (v : OperandView). v.whole_open s) (operand_truth b)

pub operand_parens_open : (e : Expr) (s : Scope) → (operand_view (ov.Parens e)).open_expr s ≡ (operand_step (Operand-F.Parens (expr_view e))).open_expr s
operand_parens_open e s = ap (λ (v : OperandView). v.open_expr s) (operand_parens e)

pub operand_parens_whole_open : (e : Expr) (s : Scope) → (operand_view (ov.Parens e)).whole_open s ≡ (operand_step (Operand-F.Parens (expr_view e))).whole_open s
operand_parens_whole_open e s = ap (λ (v : OperandView). v.whole_open s) (operand_parens e)

pub operand_table_open : (e : Expr) (es : List Expr) (s : Scope) → (operand_view (ov.Table e es)).open_expr s ≡ (operand_step (Operand-F.Operand::Table (expr_view e) (expr_views es))).open_expr s
operand_table_open e es s = ap (λ (v : OperandView). v.open_expr s) (operand_table e es)

pub operand_table_whole_open : (e : Expr) (es : List Expr) (s : Scope) → (operand_view (ov.Table e es)).whole_open s ≡ (operand_step (Operand-F.Operand::Table (expr_view e) (expr_views es))).whole_open s
operand_table_whole_open e es s = ap (λ (v : OperandView). v.whole_open s) (operand_table e es)

pub operand_decorated_table_open : (e : Expr) (es : List Expr) (ty : TypeForm) (s : Scope) → (operand_view (ov.DecoratedTable e es ty)).open_expr s ≡ (operand_step (Operand-F.Operand::DecoratedTable (expr_view e) (expr_views es) (type_form_view ty))).open_expr s
operand_decorated_table_open e es ty s = ap (λ (v : OperandView). v.open_expr s) (operand_decorated_table e es ty)

pub operand_decorated_table_whole_open : (e : Expr) (es : List Expr) (ty : TypeForm) (s : Scope) → (operand_view (ov.DecoratedTable e es ty)).whole_open s ≡ (operand_step (Operand-F.Operand::DecoratedTable (expr_view e) (expr_views es) (type_form_view ty))).whole_open s
operand_decorated_table_whole_open e es ty s = ap (λ (v : OperandView). v.whole_open s) (operand_decorated_table e es ty)

pub operand_call_open : (name : List ℕ) (es : List Expr) (s : Scope) → (operand_view (ov.Call name es)).open_expr s ≡ (operand_step (Operand-F.Operand::Call name (expr_views es))).open_expr s
operand_call_open name es s = ap (λ (v : OperandView). v.open_expr s) (operand_call name es)

pub operand_call_whole_open : (name : List ℕ) (es : List Expr) (s : Scope) → (operand_view (ov.Call name es)).whole_open s ≡ (operand_step (Operand-F.Operand::Call name (expr_views es))).whole_open s
operand_call_whole_open name es s = ap (λ (v : OperandView). v.whole_open s) (operand_call name es)

pub ruleset bounds_rules = (bounds_from_said, bounds_for_said, bounds_from_for_said, bounds_from_tree, bounds_for_tree, bounds_from_for_tree)

pub ruleset builtin_rules = (builtin_primitive_view, builtin_timer_view, builtin_any_channel_view, builtin_channel_view, builtin_counted_view)

pub ruleset dimension_rules = (dimension_open_view, dimension_sized_view)

pub ruleset element_rules = (element_named_reported, element_named_whole, element_segment_reported, element_segment_whole, element_named_tree, element_named_whole_open, element_segment_tree, element_segment_whole_open)

pub ruleset expr_rules = (expr_alone_said, expr_run_said, expr_pair_said, expr_applied_said, expr_converted_said, expr_array_converted_said, expr_named_said, expr_most_said, expr_alone_open, expr_run_open, expr_pair_open, expr_applied_open, expr_converted_open, expr_array_converted_open, expr_named_open, expr_most_open)

pub ruleset named_operand_rules = (named_operand_element_said, named_operand_literal_said, named_operand_decorated_said, named_operand_truth_said, named_operand_table_said, named_operand_decorated_table_said, named_operand_call_said, named_operand_element_open, named_operand_literal_open, named_operand_decorated_open, named_operand_truth_open, named_operand_table_open, named_operand_decorated_table_open, named_operand_call_open)

pub ruleset operand_rules = (operand_element_said, operand_element_whole, operand_literal_said, operand_literal_whole, operand_decorated_said, operand_decorated_whole, operand_truth_said, operand_truth_whole, operand_parens_said, operand_parens_whole, operand_table_said, operand_table_whole, operand_decorated_table_said, operand_decorated_table_whole, operand_call_said, operand_call_whole, operand_element_open, operand_element_whole_open, operand_literal_open, operand_literal_whole_open, operand_decorated_open, operand_decorated_whole_open, operand_truth_open, operand_truth_whole_open, operand_parens_open, operand_parens_whole_open, operand_table_open, operand_table_whole_open, operand_decorated_table_open, operand_decorated_table_whole_open, operand_call_open, operand_call_whole_open)

pub ruleset type_form_rules = (type_form_named_view, type_form_builtin_view)

pub ruleset name_rules = (element_named_name, element_segment_name, expr_alone_name, expr_run_name, expr_pair_name, expr_applied_name, expr_converted_name, expr_array_converted_name, expr_named_name, expr_most_name, operand_element_name, operand_element_digits, operand_literal_name, operand_literal_digits, operand_decorated_name, operand_decorated_digits, operand_truth_name, operand_truth_digits, operand_parens_name, operand_parens_digits, operand_table_name, operand_table_digits, operand_decorated_table_name, operand_decorated_table_digits, operand_call_name, operand_call_digits)
