-- The greatest number of dimensions in each variant.
use Rattle.std.proofs.Common.{◌≡◌, ◌∙◌, ◌+◌, max, refl, sym, ap, suc, ℕ, Bool, List, [], ◌∷◌, length, map}
use Rattle.occ_forms_expressions.specs.declared.tree.PrimitiveWord.{PrimitiveWord}
use Rattle.occ_forms_expressions.specs.declared.tree.ChannelWords.{ChannelWords}
use Rattle.occ_forms_expressions.specs.declared.tree.MonadicOperator.{MonadicOperator}
use Rattle.occ_forms_expressions.specs.declared.tree.RunOperator.{RunOperator}
use Rattle.occ_forms_expressions.specs.declared.tree.PairOperator.{PairOperator}
use Rattle.occ_forms_expressions.specs.declared.tree.Extreme.{Extreme}
use Rattle.occ_forms_expressions.specs.declared.tree.Literal.{Literal}
use Rattle.occ_forms_expressions.specs.declared.tree.DataBase.{DataBase}
use Rattle.occ_forms_expressions.specs.declared.tree.Bounds.{Bounds}
use Rattle.occ_forms_expressions.specs.declared.tree.Bounds.TheVariants as bv
use Rattle.occ_forms_expressions.specs.declared.tree.Builtin.{Builtin}
use Rattle.occ_forms_expressions.specs.declared.tree.Builtin.TheVariants as uv
use Rattle.occ_forms_expressions.specs.declared.tree.Dimension.{Dimension}
use Rattle.occ_forms_expressions.specs.declared.tree.Dimension.TheVariants as dv
use Rattle.occ_forms_expressions.specs.declared.tree.Element.{Element}
use Rattle.occ_forms_expressions.specs.declared.tree.Element.TheVariants as ev
use Rattle.occ_forms_expressions.specs.declared.tree.Expr.{Expr}
use Rattle.occ_forms_expressions.specs.declared.tree.Expr.TheVariants as xv
use Rattle.occ_forms_expressions.specs.declared.tree.NamedOperand.{NamedOperand}
use Rattle.occ_forms_expressions.specs.declared.tree.NamedOperand.TheVariants as nv
use Rattle.occ_forms_expressions.specs.declared.tree.Operand.{Operand}
use Rattle.occ_forms_expressions.specs.declared.tree.Operand.TheVariants as ov
use Rattle.occ_forms_expressions.specs.declared.tree.TypeForm.{TypeForm}
use Rattle.occ_forms_expressions.specs.declared.tree.TypeForm.TheVariants as tv
use Rattle.occ_forms_expressions.specs.declared.tree.Bounds.TheOpen.{Bounds-F, Builtin-F, Dimension-F, Element-F, Expr-F, NamedOperand-F, Operand-F, TypeForm-F}
use Rattle.occ_forms_expressions.specs.declared.tree.Bounds.TheFolds.{fold-roll-Bounds, fold-roll-Builtin, fold-roll-Dimension, fold-roll-Element, fold-roll-Expr, fold-roll-NamedOperand, fold-roll-Operand, fold-roll-TypeForm}
use Rattle.occ_forms_expressions.specs.Depth.{all_dimensions, greatest, bounds_count, builtin_count, dimension_count, element_count, expr_count, named_operand_count, operand_count, type_form_count, bounds_dimensions, builtin_dimensions, dimension_dimensions, element_dimensions, expr_dimensions, named_operand_dimensions, operand_dimensions, type_form_dimensions}

dimension_counts : (ds : List Dimension) → length (map dimension_dimensions ds) ≡ length ds
dimension_counts [] = refl
dimension_counts (d ∷ ds) = ap suc (dimension_counts ds)

-- as many counts as dimensions
counted : (ds : List Dimension) (f : ℕ → ℕ) → f (length (map dimension_dimensions ds)) ≡ f (length ds)
counted ds f = ap f (dimension_counts ds)

pub bounds_from_count : (e : Expr) → bounds_dimensions (bv.From e) ≡ expr_dimensions e
bounds_from_count e = ap bounds_dimensions (sym (bv.rolls-From e)) ∙ fold-roll-Bounds ℕ ℕ ℕ ℕ ℕ ℕ ℕ ℕ bounds_count builtin_count dimension_count element_count expr_count named_operand_count operand_count type_form_count (Bounds-F.From e)

pub bounds_for_count : (e : Expr) → bounds_dimensions (bv.For e) ≡ expr_dimensions e
bounds_for_count e = ap bounds_dimensions (sym (bv.rolls-For e)) ∙ fold-roll-Bounds ℕ ℕ ℕ ℕ ℕ ℕ ℕ ℕ bounds_count builtin_count dimension_count element_count expr_count named_operand_count operand_count type_form_count (Bounds-F.For e)

pub bounds_from_for_count : (e : Expr) (f : Expr) → bounds_dimensions (bv.FromFor e f) ≡ max (expr_dimensions e) (expr_dimensions f)
bounds_from_for_count e f = ap bounds_dimensions (sym (bv.rolls-FromFor e f)) ∙ fold-roll-Bounds ℕ ℕ ℕ ℕ ℕ ℕ ℕ ℕ bounds_count builtin_count dimension_count element_count expr_count named_operand_count operand_count type_form_count (Bounds-F.FromFor e f)

pub builtin_primitive_count : (p : PrimitiveWord) → builtin_dimensions (uv.Primitive p) ≡ 0
builtin_primitive_count p = ap builtin_dimensions (sym (uv.rolls-Primitive p)) ∙ fold-roll-Builtin ℕ ℕ ℕ ℕ ℕ ℕ ℕ ℕ bounds_count builtin_count dimension_count element_count expr_count named_operand_count operand_count type_form_count (Builtin-F.Primitive p)

pub builtin_timer_count : builtin_dimensions uv.Timer ≡ 0
builtin_timer_count = ap builtin_dimensions (sym uv.rolls-Timer) ∙ fold-roll-Builtin ℕ ℕ ℕ ℕ ℕ ℕ ℕ ℕ bounds_count builtin_count dimension_count element_count expr_count named_operand_count operand_count type_form_count Builtin-F.Timer

pub builtin_any_channel_count : (c : ChannelWords) → builtin_dimensions (uv.AnyChannel c) ≡ 0
builtin_any_channel_count c = ap builtin_dimensions (sym (uv.rolls-AnyChannel c)) ∙ fold-roll-Builtin ℕ ℕ ℕ ℕ ℕ ℕ ℕ ℕ bounds_count builtin_count dimension_count element_count expr_count named_operand_count operand_count type_form_count (Builtin-F.AnyChannel c)

pub builtin_channel_count : (c : ChannelWords) (ds : List Dimension) (b : DataBase) → builtin_dimensions (uv.Channel c ds b) ≡ all_dimensions ds
builtin_channel_count c ds b = ap builtin_dimensions (sym (uv.rolls-Channel c ds b)) ∙ fold-roll-Builtin ℕ ℕ ℕ ℕ ℕ ℕ ℕ ℕ bounds_count builtin_count dimension_count element_count expr_count named_operand_count operand_count type_form_count (Builtin-F.Channel c ds b) ∙ counted ds (λ z. max z (greatest (map dimension_dimensions ds)))

pub builtin_counted_count : (c : ChannelWords) (ds : List Dimension) (b : DataBase) (es : List Dimension) (d : DataBase) → builtin_dimensions (uv.Counted c ds b es d) ≡ max (all_dimensions ds) (max (length es + 1) (greatest (map dimension_dimensions es)))
builtin_counted_count c ds b es d = ap builtin_dimensions (sym (uv.rolls-Counted c ds b es d)) ∙ fold-roll-Builtin ℕ ℕ ℕ ℕ ℕ ℕ ℕ ℕ bounds_count builtin_count dimension_count element_count expr_count named_operand_count operand_count type_form_count (Builtin-F.Counted c ds b es d) ∙ counted ds (λ z. max (max z (greatest (map dimension_dimensions ds))) (max (length (map dimension_dimensions es) + 1) (greatest (map dimension_dimensions es)))) ∙ counted es (λ z. max (all_dimensions ds) (max (z + 1) (greatest (map dimension_dimensions es))))

pub dimension_open_count : dimension_dimensions dv.Open ≡ 0
dimension_open_count = ap dimension_dimensions (sym dv.rolls-Open) ∙ fold-roll-Dimension ℕ ℕ ℕ ℕ ℕ ℕ ℕ ℕ bounds_count builtin_count dimension_count element_count expr_count named_operand_count operand_count type_form_count Dimension-F.Open

pub dimension_sized_count : (e : Expr) → dimension_dimensions (dv.Sized e) ≡ expr_dimensions e
dimension_sized_count e = ap dimension_dimensions (sym (dv.rolls-Sized e)) ∙ fold-roll-Dimension ℕ ℕ ℕ ℕ ℕ ℕ ℕ ℕ bounds_count builtin_count dimension_count element_count expr_count named_operand_count operand_count type_form_count (Dimension-F.Sized e)

pub element_named_count : (n : List ℕ) (es : List Expr) → element_dimensions (ev.Named n es) ≡ (greatest (map expr_dimensions es))
element_named_count n es = ap element_dimensions (sym (ev.rolls-Named n es)) ∙ fold-roll-Element ℕ ℕ ℕ ℕ ℕ ℕ ℕ ℕ bounds_count builtin_count dimension_count element_count expr_count named_operand_count operand_count type_form_count (Element-F.Element::Named n es)

pub element_segment_count : (el : Element) (b : Bounds) (es : List Expr) → element_dimensions (ev.Segment el b es) ≡ max (element_dimensions el) (max (bounds_dimensions b) (greatest (map expr_dimensions es)))
element_segment_count el b es = ap element_dimensions (sym (ev.rolls-Segment el b es)) ∙ fold-roll-Element ℕ ℕ ℕ ℕ ℕ ℕ ℕ ℕ bounds_count builtin_count dimension_count element_count expr_count named_operand_count operand_count type_form_count (Element-F.Segment el b es)

pub expr_alone_count : (o : Operand) → expr_dimensions (xv.Alone o) ≡ operand_dimensions o
expr_alone_count o = ap expr_dimensions (sym (xv.rolls-Alone o)) ∙ fold-roll-Expr ℕ ℕ ℕ ℕ ℕ ℕ ℕ ℕ bounds_count builtin_count dimension_count element_count expr_count named_operand_count operand_count type_form_count (Expr-F.Alone o)

pub expr_run_count : (op : RunOperator) (a : Operand) (b : Operand) (os : List Operand) → expr_dimensions (xv.Run op a b os) ≡ max (operand_dimensions a) (max (operand_dimensions b) (greatest (map operand_dimensions os)))
expr_run_count op a b os = ap expr_dimensions (sym (xv.rolls-Run op a b os)) ∙ fold-roll-Expr ℕ ℕ ℕ ℕ ℕ ℕ ℕ ℕ bounds_count builtin_count dimension_count element_count expr_count named_operand_count operand_count type_form_count (Expr-F.Run op a b os)

pub expr_pair_count : (a : Operand) (op : PairOperator) (b : Operand) → expr_dimensions (xv.Pair a op b) ≡ max (operand_dimensions a) (operand_dimensions b)
expr_pair_count a op b = ap expr_dimensions (sym (xv.rolls-Pair a op b)) ∙ fold-roll-Expr ℕ ℕ ℕ ℕ ℕ ℕ ℕ ℕ bounds_count builtin_count dimension_count element_count expr_count named_operand_count operand_count type_form_count (Expr-F.Pair a op b)

pub expr_applied_count : (op : MonadicOperator) (o : Operand) → expr_dimensions (xv.Applied op o) ≡ operand_dimensions o
expr_applied_count op o = ap expr_dimensions (sym (xv.rolls-Applied op o)) ∙ fold-roll-Expr ℕ ℕ ℕ ℕ ℕ ℕ ℕ ℕ bounds_count builtin_count dimension_count element_count expr_count named_operand_count operand_count type_form_count (Expr-F.Applied op o)

pub expr_converted_count : (ds : List Dimension) (b : Builtin) (o : Operand) → expr_dimensions (xv.Converted ds b o) ≡ max (all_dimensions ds) (max (builtin_dimensions b) (operand_dimensions o))
expr_converted_count ds b o = ap expr_dimensions (sym (xv.rolls-Converted ds b o)) ∙ fold-roll-Expr ℕ ℕ ℕ ℕ ℕ ℕ ℕ ℕ bounds_count builtin_count dimension_count element_count expr_count named_operand_count operand_count type_form_count (Expr-F.Converted ds b o) ∙ counted ds (λ z. max (max z (greatest (map dimension_dimensions ds))) (max (builtin_dimensions b) (operand_dimensions o)))

pub expr_array_converted_count : (d : Dimension) (ds : List Dimension) (n : List ℕ) (o : Operand) → expr_dimensions (xv.ArrayConverted d ds n o) ≡ max (all_dimensions (d ∷ ds)) (operand_dimensions o)
expr_array_converted_count d ds n o = ap expr_dimensions (sym (xv.rolls-ArrayConverted d ds n o)) ∙ fold-roll-Expr ℕ ℕ ℕ ℕ ℕ ℕ ℕ ℕ bounds_count builtin_count dimension_count element_count expr_count named_operand_count operand_count type_form_count (Expr-F.ArrayConverted d ds n o) ∙ counted (d ∷ ds) (λ z. max (max z (greatest (map dimension_dimensions (d ∷ ds)))) (operand_dimensions o))

pub expr_named_count : (n : List ℕ) (o : NamedOperand) → expr_dimensions (xv.Named n o) ≡ named_operand_dimensions o
expr_named_count n o = ap expr_dimensions (sym (xv.rolls-Named n o)) ∙ fold-roll-Expr ℕ ℕ ℕ ℕ ℕ ℕ ℕ ℕ bounds_count builtin_count dimension_count element_count expr_count named_operand_count operand_count type_form_count (Expr-F.Expr::Named n o)

pub expr_most_count : (x : Extreme) (ty : TypeForm) → expr_dimensions (xv.Most x ty) ≡ type_form_dimensions ty
expr_most_count x ty = ap expr_dimensions (sym (xv.rolls-Most x ty)) ∙ fold-roll-Expr ℕ ℕ ℕ ℕ ℕ ℕ ℕ ℕ bounds_count builtin_count dimension_count element_count expr_count named_operand_count operand_count type_form_count (Expr-F.Most x ty)

pub named_operand_element_count : (el : Element) → named_operand_dimensions (nv.Element el) ≡ element_dimensions el
named_operand_element_count el = ap named_operand_dimensions (sym (nv.rolls-Element el)) ∙ fold-roll-NamedOperand ℕ ℕ ℕ ℕ ℕ ℕ ℕ ℕ bounds_count builtin_count dimension_count element_count expr_count named_operand_count operand_count type_form_count (NamedOperand-F.NamedOperand::Element el)

pub named_operand_literal_count : (l : Literal) → named_operand_dimensions (nv.Literal l) ≡ 0
named_operand_literal_count l = ap named_operand_dimensions (sym (nv.rolls-Literal l)) ∙ fold-roll-NamedOperand ℕ ℕ ℕ ℕ ℕ ℕ ℕ ℕ bounds_count builtin_count dimension_count element_count expr_count named_operand_count operand_count type_form_count (NamedOperand-F.NamedOperand::Literal l)

pub named_operand_decorated_count : (l : Literal) (ty : TypeForm) → named_operand_dimensions (nv.Decorated l ty) ≡ type_form_dimensions ty
named_operand_decorated_count l ty = ap named_operand_dimensions (sym (nv.rolls-Decorated l ty)) ∙ fold-roll-NamedOperand ℕ ℕ ℕ ℕ ℕ ℕ ℕ ℕ bounds_count builtin_count dimension_count element_count expr_count named_operand_count operand_count type_form_count (NamedOperand-F.NamedOperand::Decorated l ty)

pub named_operand_truth_count : (b : Bool) → named_operand_dimensions (nv.Truth b) ≡ 0
named_operand_truth_count b = ap named_operand_dimensions (sym (nv.rolls-Truth b)) ∙ fold-roll-NamedOperand ℕ ℕ ℕ ℕ ℕ ℕ ℕ ℕ bounds_count builtin_count dimension_count element_count expr_count named_operand_count operand_count type_form_count (NamedOperand-F.NamedOperand::Truth b)

pub named_operand_table_count : (e : Expr) (f : Expr) (es : List Expr) → named_operand_dimensions (nv.Table e f es) ≡ max (expr_dimensions e) (max (expr_dimensions f) (greatest (map expr_dimensions es)))
named_operand_table_count e f es = ap named_operand_dimensions (sym (nv.rolls-Table e f es)) ∙ fold-roll-NamedOperand ℕ ℕ ℕ ℕ ℕ ℕ ℕ ℕ bounds_count builtin_count dimension_count element_count expr_count named_operand_count operand_count type_form_count (NamedOperand-F.NamedOperand::Table e f es)

pub named_operand_decorated_table_count : (e : Expr) (es : List Expr) (ty : TypeForm) → named_operand_dimensions (nv.DecoratedTable e es ty) ≡ max (expr_dimensions e) (max (greatest (map expr_dimensions es)) (type_form_dimensions ty))
named_operand_decorated_table_count e es ty = ap named_operand_dimensions (sym (nv.rolls-DecoratedTable e es ty)) ∙ fold-roll-NamedOperand ℕ ℕ ℕ ℕ ℕ ℕ ℕ ℕ bounds_count builtin_count dimension_count element_count expr_count named_operand_count operand_count type_form_count (NamedOperand-F.NamedOperand::DecoratedTable e es ty)

pub named_operand_call_count : (n : List ℕ) (es : List Expr) → named_operand_dimensions (nv.Call n es) ≡ (greatest (map expr_dimensions es))
named_operand_call_count n es = ap named_operand_dimensions (sym (nv.rolls-Call n es)) ∙ fold-roll-NamedOperand ℕ ℕ ℕ ℕ ℕ ℕ ℕ ℕ bounds_count builtin_count dimension_count element_count expr_count named_operand_count operand_count type_form_count (NamedOperand-F.NamedOperand::Call n es)

pub operand_element_count : (el : Element) → operand_dimensions (ov.Element el) ≡ element_dimensions el
operand_element_count el = ap operand_dimensions (sym (ov.rolls-Element el)) ∙ fold-roll-Operand ℕ ℕ ℕ ℕ ℕ ℕ ℕ ℕ bounds_count builtin_count dimension_count element_count expr_count named_operand_count operand_count type_form_count (Operand-F.Operand::Element el)

pub operand_literal_count : (l : Literal) → operand_dimensions (ov.Literal l) ≡ 0
operand_literal_count l = ap operand_dimensions (sym (ov.rolls-Literal l)) ∙ fold-roll-Operand ℕ ℕ ℕ ℕ ℕ ℕ ℕ ℕ bounds_count builtin_count dimension_count element_count expr_count named_operand_count operand_count type_form_count (Operand-F.Operand::Literal l)

pub operand_decorated_count : (l : Literal) (ty : TypeForm) → operand_dimensions (ov.Decorated l ty) ≡ type_form_dimensions ty
operand_decorated_count l ty = ap operand_dimensions (sym (ov.rolls-Decorated l ty)) ∙ fold-roll-Operand ℕ ℕ ℕ ℕ ℕ ℕ ℕ ℕ bounds_count builtin_count dimension_count element_count expr_count named_operand_count operand_count type_form_count (Operand-F.Operand::Decorated l ty)

pub operand_truth_count : (b : Bool) → operand_dimensions (ov.Truth b) ≡ 0
operand_truth_count b = ap operand_dimensions (sym (ov.rolls-Truth b)) ∙ fold-roll-Operand ℕ ℕ ℕ ℕ ℕ ℕ ℕ ℕ bounds_count builtin_count dimension_count element_count expr_count named_operand_count operand_count type_form_count (Operand-F.Operand::Truth b)

pub operand_parens_count : (e : Expr) → operand_dimensions (ov.Parens e) ≡ expr_dimensions e
operand_parens_count e = ap operand_dimensions (sym (ov.rolls-Parens e)) ∙ fold-roll-Operand ℕ ℕ ℕ ℕ ℕ ℕ ℕ ℕ bounds_count builtin_count dimension_count element_count expr_count named_operand_count operand_count type_form_count (Operand-F.Parens e)

pub operand_table_count : (e : Expr) (es : List Expr) → operand_dimensions (ov.Table e es) ≡ max (expr_dimensions e) (greatest (map expr_dimensions es))
operand_table_count e es = ap operand_dimensions (sym (ov.rolls-Table e es)) ∙ fold-roll-Operand ℕ ℕ ℕ ℕ ℕ ℕ ℕ ℕ bounds_count builtin_count dimension_count element_count expr_count named_operand_count operand_count type_form_count (Operand-F.Operand::Table e es)

pub operand_decorated_table_count : (e : Expr) (es : List Expr) (ty : TypeForm) → operand_dimensions (ov.DecoratedTable e es ty) ≡ max (expr_dimensions e) (max (greatest (map expr_dimensions es)) (type_form_dimensions ty))
operand_decorated_table_count e es ty = ap operand_dimensions (sym (ov.rolls-DecoratedTable e es ty)) ∙ fold-roll-Operand ℕ ℕ ℕ ℕ ℕ ℕ ℕ ℕ bounds_count builtin_count dimension_count element_count expr_count named_operand_count operand_count type_form_count (Operand-F.Operand::DecoratedTable e es ty)

pub operand_call_count : (n : List ℕ) (es : List Expr) → operand_dimensions (ov.Call n es) ≡ (greatest (map expr_dimensions es))
operand_call_count n es = ap operand_dimensions (sym (ov.rolls-Call n es)) ∙ fold-roll-Operand ℕ ℕ ℕ ℕ ℕ ℕ ℕ ℕ bounds_count builtin_count dimension_count element_count expr_count named_operand_count operand_count type_form_count (Operand-F.Operand::Call n es)

pub type_form_named_count : (ds : List Dimension) (n : List ℕ) → type_form_dimensions (tv.Named ds n) ≡ all_dimensions ds
type_form_named_count ds n = ap type_form_dimensions (sym (tv.rolls-Named ds n)) ∙ fold-roll-TypeForm ℕ ℕ ℕ ℕ ℕ ℕ ℕ ℕ bounds_count builtin_count dimension_count element_count expr_count named_operand_count operand_count type_form_count (TypeForm-F.TypeForm::Named ds n) ∙ counted ds (λ z. max z (greatest (map dimension_dimensions ds)))

pub type_form_builtin_count : (ds : List Dimension) (b : Builtin) → type_form_dimensions (tv.Builtin ds b) ≡ max (all_dimensions ds) (builtin_dimensions b)
type_form_builtin_count ds b = ap type_form_dimensions (sym (tv.rolls-Builtin ds b)) ∙ fold-roll-TypeForm ℕ ℕ ℕ ℕ ℕ ℕ ℕ ℕ bounds_count builtin_count dimension_count element_count expr_count named_operand_count operand_count type_form_count (TypeForm-F.Builtin ds b) ∙ counted ds (λ z. max (max z (greatest (map dimension_dimensions ds))) (builtin_dimensions b))

-- the greatest number of dimensions in each variant
pub ruleset dimension_rules = (bounds_from_count, bounds_for_count, bounds_from_for_count, builtin_primitive_count, builtin_timer_count, builtin_any_channel_count, builtin_channel_count, builtin_counted_count, dimension_open_count, dimension_sized_count, element_named_count, element_segment_count, expr_alone_count, expr_run_count, expr_pair_count, expr_applied_count, expr_converted_count, expr_array_converted_count, expr_named_count, expr_most_count, named_operand_element_count, named_operand_literal_count, named_operand_decorated_count, named_operand_truth_count, named_operand_table_count, named_operand_decorated_table_count, named_operand_call_count, operand_element_count, operand_literal_count, operand_decorated_count, operand_truth_count, operand_parens_count, operand_table_count, operand_decorated_table_count, operand_call_count, type_form_named_count, type_form_builtin_count)
