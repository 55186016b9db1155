-- What holds of each tree if it holds of each tree whose parts it holds of.
use Rattle.std.proofs.Common.{◌≡◌, sym, subst, ℕ, Bool, List, [], ◌∷◌, map}
use Rattle.occ_forms_expressions.specs.declared.tree.Bounds.{Bounds, roll-Bounds}
use Rattle.occ_forms_expressions.specs.declared.tree.Bounds.TheFolds.{ind-Bounds, ind-Builtin, ind-Dimension, ind-Element, ind-Expr, ind-NamedOperand, ind-Operand, ind-TypeForm, map-Bounds, map-Builtin, map-Dimension, map-Element, map-Expr, map-NamedOperand, map-Operand, map-TypeForm}
use Rattle.occ_forms_expressions.specs.declared.tree.Bounds.TheOpen.{Bounds-F, Builtin-F, Dimension-F, Element-F, Expr-F, NamedOperand-F, Operand-F, TypeForm-F}
use Rattle.occ_forms_expressions.specs.declared.tree.Bounds.TheVariants as bv
use Rattle.occ_forms_expressions.specs.declared.tree.Builtin.{Builtin, roll-Builtin}
use Rattle.occ_forms_expressions.specs.declared.tree.Builtin.TheVariants as uv
use Rattle.occ_forms_expressions.specs.declared.tree.ChannelWords.{ChannelWords}
use Rattle.occ_forms_expressions.specs.declared.tree.DataBase.{DataBase}
use Rattle.occ_forms_expressions.specs.declared.tree.Dimension.{Dimension, roll-Dimension}
use Rattle.occ_forms_expressions.specs.declared.tree.Dimension.TheVariants as dv
use Rattle.occ_forms_expressions.specs.declared.tree.Element.{Element, roll-Element}
use Rattle.occ_forms_expressions.specs.declared.tree.Element.TheVariants as ev
use Rattle.occ_forms_expressions.specs.declared.tree.Expr.{Expr, roll-Expr}
use Rattle.occ_forms_expressions.specs.declared.tree.Expr.TheVariants as xv
use Rattle.occ_forms_expressions.specs.declared.tree.Extreme.{Extreme}
use Rattle.occ_forms_expressions.specs.declared.tree.Literal.{Literal}
use Rattle.occ_forms_expressions.specs.declared.tree.MonadicOperator.{MonadicOperator}
use Rattle.occ_forms_expressions.specs.declared.tree.NamedOperand.{NamedOperand, roll-NamedOperand}
use Rattle.occ_forms_expressions.specs.declared.tree.NamedOperand.TheVariants as nv
use Rattle.occ_forms_expressions.specs.declared.tree.Operand.{Operand, roll-Operand}
use Rattle.occ_forms_expressions.specs.declared.tree.Operand.TheVariants as ov
use Rattle.occ_forms_expressions.specs.declared.tree.PairOperator.{PairOperator}
use Rattle.occ_forms_expressions.specs.declared.tree.PrimitiveWord.{PrimitiveWord}
use Rattle.occ_forms_expressions.specs.declared.tree.RunOperator.{RunOperator}
use Rattle.occ_forms_expressions.specs.declared.tree.TypeForm.{TypeForm, roll-TypeForm}
use Rattle.occ_forms_expressions.specs.declared.tree.TypeForm.TheVariants as tv

-- it holds of each item
abbrev pub Every : {X : Type 0} → (X → Type 0) → List X → Type 0
Every P [] = Unit {0}
Every P (x ∷ xs) = P x × Every P xs

-- something of the trees of each class, such that it holds of each variant if it holds of what stands in it
pub record Steps (OfBounds : Bounds → Type 0) (OfBuiltin : Builtin → Type 0) (OfDimension : Dimension → Type 0) (OfElement : Element → Type 0) (OfExpr : Expr → Type 0) (OfNamed : NamedOperand → Type 0) (OfOperand : Operand → Type 0) (OfType : TypeForm → Type 0) : Type 0 where
  pub bounds_from : (e : Expr) → OfExpr e → OfBounds (bv.From e)
  pub bounds_for : (e : Expr) → OfExpr e → OfBounds (bv.For e)
  pub bounds_from_for : (e f : Expr) → OfExpr e → OfExpr f → OfBounds (bv.FromFor e f)
  pub builtin_primitive : (p : PrimitiveWord) → OfBuiltin (uv.Primitive p)
  pub builtin_timer : OfBuiltin uv.Timer
  pub builtin_any_channel : (c : ChannelWords) → OfBuiltin (uv.AnyChannel c)
  pub builtin_channel : (c : ChannelWords) (ds : List Dimension) (b : DataBase) → Every OfDimension ds → OfBuiltin (uv.Channel c ds b)
  pub builtin_counted : (c : ChannelWords) (ds : List Dimension) (b : DataBase) (es : List Dimension) (d : DataBase) → Every OfDimension ds → Every OfDimension es → OfBuiltin (uv.Counted c ds b es d)
  pub dimension_open : OfDimension dv.Open
  pub dimension_sized : (e : Expr) → OfExpr e → OfDimension (dv.Sized e)
  pub element_named : (n : List ℕ) (es : List Expr) → Every OfExpr es → OfElement (ev.Named n es)
  pub element_segment : (el : Element) (b : Bounds) (es : List Expr) → OfElement el → OfBounds b → Every OfExpr es → OfElement (ev.Segment el b es)
  pub expr_alone : (o : Operand) → OfOperand o → OfExpr (xv.Alone o)
  pub expr_run : (op : RunOperator) (a b : Operand) (os : List Operand) → OfOperand a → OfOperand b → Every OfOperand os → OfExpr (xv.Run op a b os)
  pub expr_pair : (a : Operand) (op : PairOperator) (b : Operand) → OfOperand a → OfOperand b → OfExpr (xv.Pair a op b)
  pub expr_applied : (op : MonadicOperator) (o : Operand) → OfOperand o → OfExpr (xv.Applied op o)
  pub expr_converted : (ds : List Dimension) (b : Builtin) (o : Operand) → Every OfDimension ds → OfBuiltin b → OfOperand o → OfExpr (xv.Converted ds b o)
  pub expr_array_converted : (d : Dimension) (ds : List Dimension) (n : List ℕ) (o : Operand) → OfDimension d → Every OfDimension ds → OfOperand o → OfExpr (xv.ArrayConverted d ds n o)
  pub expr_named : (n : List ℕ) (o : NamedOperand) → OfNamed o → OfExpr (xv.Named n o)
  pub expr_most : (x : Extreme) (ty : TypeForm) → OfType ty → OfExpr (xv.Most x ty)
  pub named_operand_element : (el : Element) → OfElement el → OfNamed (nv.Element el)
  pub named_operand_literal : (l : Literal) → OfNamed (nv.Literal l)
  pub named_operand_decorated : (l : Literal) (ty : TypeForm) → OfType ty → OfNamed (nv.Decorated l ty)
  pub named_operand_truth : (b : Bool) → OfNamed (nv.Truth b)
  pub named_operand_table : (e f : Expr) (es : List Expr) → OfExpr e → OfExpr f → Every OfExpr es → OfNamed (nv.Table e f es)
  pub named_operand_decorated_table : (e : Expr) (es : List Expr) (ty : TypeForm) → OfExpr e → Every OfExpr es → OfType ty → OfNamed (nv.DecoratedTable e es ty)
  pub named_operand_call : (n : List ℕ) (es : List Expr) → Every OfExpr es → OfNamed (nv.Call n es)
  pub operand_element : (el : Element) → OfElement el → OfOperand (ov.Element el)
  pub operand_literal : (l : Literal) → OfOperand (ov.Literal l)
  pub operand_decorated : (l : Literal) (ty : TypeForm) → OfType ty → OfOperand (ov.Decorated l ty)
  pub operand_truth : (b : Bool) → OfOperand (ov.Truth b)
  pub operand_parens : (e : Expr) → OfExpr e → OfOperand (ov.Parens e)
  pub operand_table : (e : Expr) (es : List Expr) → OfExpr e → Every OfExpr es → OfOperand (ov.Table e es)
  pub operand_decorated_table : (e : Expr) (es : List Expr) (ty : TypeForm) → OfExpr e → Every OfExpr es → OfType ty → OfOperand (ov.DecoratedTable e es ty)
  pub operand_call : (n : List ℕ) (es : List Expr) → Every OfExpr es → OfOperand (ov.Call n es)
  pub type_form_named : (ds : List Dimension) (n : List ℕ) → Every OfDimension ds → OfType (tv.Named ds n)
  pub type_form_builtin : (ds : List Dimension) (b : Builtin) → Every OfDimension ds → OfBuiltin b → OfType (tv.Builtin ds b)

-- those of which it holds
abbrev With : {X : Type 0} → (X → Type 0) → Type 0
With {X} P = (x : X) × P x

every : {X : Type 0} (P : X → Type 0) (xs : List (With P)) → Every P (map (λ e. e.0) xs)
every P [] = tt
every P (x ∷ xs) = (x.1, every P xs)

bounds_step : {OfBounds : Bounds → Type 0} {OfBuiltin : Builtin → Type 0} {OfDimension : Dimension → Type 0} {OfElement : Element → Type 0} {OfExpr : Expr → Type 0} {OfNamed : NamedOperand → Type 0} {OfOperand : Operand → Type 0} {OfType : TypeForm → Type 0} → Steps OfBounds OfBuiltin OfDimension OfElement OfExpr OfNamed OfOperand OfType → (x : Bounds-F Bounds Builtin Dimension Element Expr NamedOperand Operand TypeForm) (y : Bounds-F (With OfBounds) (With OfBuiltin) (With OfDimension) (With OfElement) (With OfExpr) (With OfNamed) (With OfOperand) (With OfType)) → map-Bounds _ _ _ _ _ _ _ _ _ _ _ _ _ _ _ _ (λ e. e.0) (λ e. e.0) (λ e. e.0) (λ e. e.0) (λ e. e.0) (λ e. e.0) (λ e. e.0) (λ e. e.0) y ≡ x → OfBounds (roll-Bounds x)
bounds_step {OfBounds} {OfBuiltin} {OfDimension} {OfElement} {OfExpr} {OfNamed} {OfOperand} {OfType} steps x y is = subst (λ z. OfBounds (roll-Bounds z)) is (by y) where
  by : (y : Bounds-F (With OfBounds) (With OfBuiltin) (With OfDimension) (With OfElement) (With OfExpr) (With OfNamed) (With OfOperand) (With OfType)) → OfBounds (roll-Bounds (map-Bounds _ _ _ _ _ _ _ _ _ _ _ _ _ _ _ _ (λ e. e.0) (λ e. e.0) (λ e. e.0) (λ e. e.0) (λ e. e.0) (λ e. e.0) (λ e. e.0) (λ e. e.0) y))
  by (Bounds-F.From e) = subst OfBounds (sym (bv.rolls-From e.0)) (steps.bounds_from e.0 e.1)
  by (Bounds-F.For e) = subst OfBounds (sym (bv.rolls-For e.0)) (steps.bounds_for e.0 e.1)
  by (Bounds-F.FromFor e f) = subst OfBounds (sym (bv.rolls-FromFor e.0 f.0)) (steps.bounds_from_for e.0 f.0 e.1 f.1)

builtin_step : {OfBounds : Bounds → Type 0} {OfBuiltin : Builtin → Type 0} {OfDimension : Dimension → Type 0} {OfElement : Element → Type 0} {OfExpr : Expr → Type 0} {OfNamed : NamedOperand → Type 0} {OfOperand : Operand → Type 0} {OfType : TypeForm → Type 0} → Steps OfBounds OfBuiltin OfDimension OfElement OfExpr OfNamed OfOperand OfType → (x : Builtin-F Bounds Builtin Dimension Element Expr NamedOperand Operand TypeForm) (y : Builtin-F (With OfBounds) (With OfBuiltin) (With OfDimension) (With OfElement) (With OfExpr) (With OfNamed) (With OfOperand) (With OfType)) → map-Builtin _ _ _ _ _ _ _ _ _ _ _ _ _ _ _ _ (λ e. e.0) (λ e. e.0) (λ e. e.0) (λ e. e.0) (λ e. e.0) (λ e. e.0) (λ e. e.0) (λ e. e.0) y ≡ x → OfBuiltin (roll-Builtin x)
builtin_step {OfBounds} {OfBuiltin} {OfDimension} {OfElement} {OfExpr} {OfNamed} {OfOperand} {OfType} steps x y is = subst (λ z. OfBuiltin (roll-Builtin z)) is (by y) where
  by : (y : Builtin-F (With OfBounds) (With OfBuiltin) (With OfDimension) (With OfElement) (With OfExpr) (With OfNamed) (With OfOperand) (With OfType)) → OfBuiltin (roll-Builtin (map-Builtin _ _ _ _ _ _ _ _ _ _ _ _ _ _ _ _ (λ e. e.0) (λ e. e.0) (λ e. e.0) (λ e. e.0) (λ e. e.0) (λ e. e.0) (λ e. e.0) (λ e. e.0) y))
  by (Builtin-F.Primitive p) = subst OfBuiltin (sym (uv.rolls-Primitive p)) (steps.builtin_primitive p)
  by Builtin-F.Timer = subst OfBuiltin (sym uv.rolls-Timer) steps.builtin_timer
  by (Builtin-F.AnyChannel c) = subst OfBuiltin (sym (uv.rolls-AnyChannel c)) (steps.builtin_any_channel c)
  by (Builtin-F.Channel c ds b) = subst OfBuiltin (sym (uv.rolls-Channel c (map (λ e. e.0) ds) b)) (steps.builtin_channel c (map (λ e. e.0) ds) b (every OfDimension ds))
  by (Builtin-F.Counted c ds b es d) = subst OfBuiltin (sym (uv.rolls-Counted c (map (λ e. e.0) ds) b (map (λ e. e.0) es) d)) (steps.builtin_counted c (map (λ e. e.0) ds) b (map (λ e. e.0) es) d (every OfDimension ds) (every OfDimension es))

dimension_step : {OfBounds : Bounds → Type 0} {OfBuiltin : Builtin → Type 0} {OfDimension : Dimension → Type 0} {OfElement : Element → Type 0} {OfExpr : Expr → Type 0} {OfNamed : NamedOperand → Type 0} {OfOperand : Operand → Type 0} {OfType : TypeForm → Type 0} → Steps OfBounds OfBuiltin OfDimension OfElement OfExpr OfNamed OfOperand OfType → (x : Dimension-F Bounds Builtin Dimension Element Expr NamedOperand Operand TypeForm) (y : Dimension-F (With OfBounds) (With OfBuiltin) (With OfDimension) (With OfElement) (With OfExpr) (With OfNamed) (With OfOperand) (With OfType)) → map-Dimension _ _ _ _ _ _ _ _ _ _ _ _ _ _ _ _ (λ e. e.0) (λ e. e.0) (λ e. e.0) (λ e. e.0) (λ e. e.0) (λ e. e.0) (λ e. e.0) (λ e. e.0) y ≡ x → OfDimension (roll-Dimension x)
dimension_step {OfBounds} {OfBuiltin} {OfDimension} {OfElement} {OfExpr} {OfNamed} {OfOperand} {OfType} steps x y is = subst (λ z. OfDimension (roll-Dimension z)) is (by y) where
  by : (y : Dimension-F (With OfBounds) (With OfBuiltin) (With OfDimension) (With OfElement) (With OfExpr) (With OfNamed) (With OfOperand) (With OfType)) → OfDimension (roll-Dimension (map-Dimension _ _ _ _ _ _ _ _ _ _ _ _ _ _ _ _ (λ e. e.0) (λ e. e.0) (λ e. e.0) (λ e. e.0) (λ e. e.0) (λ e. e.0) (λ e. e.0) (λ e. e.0) y))
  by Dimension-F.Open = subst OfDimension (sym dv.rolls-Open) steps.dimension_open
  by (Dimension-F.Sized e) = subst OfDimension (sym (dv.rolls-Sized e.0)) (steps.dimension_sized e.0 e.1)

element_step : {OfBounds : Bounds → Type 0} {OfBuiltin : Builtin → Type 0} {OfDimension : Dimension → Type 0} {OfElement : Element → Type 0} {OfExpr : Expr → Type 0} {OfNamed : NamedOperand → Type 0} {OfOperand : Operand → Type 0} {OfType : TypeForm → Type 0} → Steps OfBounds OfBuiltin OfDimension OfElement OfExpr OfNamed OfOperand OfType → (x : Element-F Bounds Builtin Dimension Element Expr NamedOperand Operand TypeForm) (y : Element-F (With OfBounds) (With OfBuiltin) (With OfDimension) (With OfElement) (With OfExpr) (With OfNamed) (With OfOperand) (With OfType)) → map-Element _ _ _ _ _ _ _ _ _ _ _ _ _ _ _ _ (λ e. e.0) (λ e. e.0) (λ e. e.0) (λ e. e.0) (λ e. e.0) (λ e. e.0) (λ e. e.0) (λ e. e.0) y ≡ x → OfElement (roll-Element x)
element_step {OfBounds} {OfBuiltin} {OfDimension} {OfElement} {OfExpr} {OfNamed} {OfOperand} {OfType} steps x y is = subst (λ z. OfElement (roll-Element z)) is (by y) where
  by : (y : Element-F (With OfBounds) (With OfBuiltin) (With OfDimension) (With OfElement) (With OfExpr) (With OfNamed) (With OfOperand) (With OfType)) → OfElement (roll-Element (map-Element _ _ _ _ _ _ _ _ _ _ _ _ _ _ _ _ (λ e. e.0) (λ e. e.0) (λ e. e.0) (λ e. e.0) (λ e. e.0) (λ e. e.0) (λ e. e.0) (λ e. e.0) y))
  by (Element-F.Element::Named n es) = subst OfElement (sym (ev.rolls-Named n (map (λ e. e.0) es))) (steps.element_named n (map (λ e. e.0) es) (every OfExpr es))
  by (Element-F.Segment el b es) = subst OfElement (sym (ev.rolls-Segment el.0 b.0 (map (λ e. e.0) es))) (steps.element_segment el.0 b.0 (map (λ e. e.0) es) el.1 b.1 (every OfExpr es))

expr_step : {OfBounds : Bounds → Type 0} {OfBuiltin : Builtin → Type 0} {OfDimension : Dimension → Type 0} {OfElement : Element → Type 0} {OfExpr : Expr → Type 0} {OfNamed : NamedOperand → Type 0} {OfOperand : Operand → Type 0} {OfType : TypeForm → Type 0} → Steps OfBounds OfBuiltin OfDimension OfElement OfExpr OfNamed OfOperand OfType → (x : Expr-F Bounds Builtin Dimension Element Expr NamedOperand Operand TypeForm) (y : Expr-F (With OfBounds) (With OfBuiltin) (With OfDimension) (With OfElement) (With OfExpr) (With OfNamed) (With OfOperand) (With OfType)) → map-Expr _ _ _ _ _ _ _ _ _ _ _ _ _ _ _ _ (λ e. e.0) (λ e. e.0) (λ e. e.0) (λ e. e.0) (λ e. e.0) (λ e. e.0) (λ e. e.0) (λ e. e.0) y ≡ x → OfExpr (roll-Expr x)
expr_step {OfBounds} {OfBuiltin} {OfDimension} {OfElement} {OfExpr} {OfNamed} {OfOperand} {OfType} steps x y is = subst (λ z. OfExpr (roll-Expr z)) is (by y) where
  by : (y : Expr-F (With OfBounds) (With OfBuiltin) (With OfDimension) (With OfElement) (With OfExpr) (With OfNamed) (With OfOperand) (With OfType)) → OfExpr (roll-Expr (map-Expr _ _ _ _ _ _ _ _ _ _ _ _ _ _ _ _ (λ e. e.0) (λ e. e.0) (λ e. e.0) (λ e. e.0) (λ e. e.0) (λ e. e.0) (λ e. e.0) (λ e. e.0) y))
  by (Expr-F.Alone o) = subst OfExpr (sym (xv.rolls-Alone o.0)) (steps.expr_alone o.0 o.1)
  by (Expr-F.Run op a b os) = subst OfExpr (sym (xv.rolls-Run op a.0 b.0 (map (λ e. e.0) os))) (steps.expr_run op a.0 b.0 (map (λ e. e.0) os) a.1 b.1 (every OfOperand os))
  by (Expr-F.Pair a op b) = subst OfExpr (sym (xv.rolls-Pair a.0 op b.0)) (steps.expr_pair a.0 op b.0 a.1 b.1)
  by (Expr-F.Applied op o) = subst OfExpr (sym (xv.rolls-Applied op o.0)) (steps.expr_applied op o.0 o.1)
  by (Expr-F.Converted ds b o) = subst OfExpr (sym (xv.rolls-Converted (map (λ e. e.0) ds) b.0 o.0)) (steps.expr_converted (map (λ e. e.0) ds) b.0 o.0 (every OfDimension ds) b.1 o.1)
  by (Expr-F.ArrayConverted d ds n o) = subst OfExpr (sym (xv.rolls-ArrayConverted d.0 (map (λ e. e.0) ds) n o.0)) (steps.expr_array_converted d.0 (map (λ e. e.0) ds) n o.0 d.1 (every OfDimension ds) o.1)
  by (Expr-F.Expr::Named n o) = subst OfExpr (sym (xv.rolls-Named n o.0)) (steps.expr_named n o.0 o.1)
  by (Expr-F.Most x ty) = subst OfExpr (sym (xv.rolls-Most x ty.0)) (steps.expr_most x ty.0 ty.1)

named_operand_step : {OfBounds : Bounds → Type 0} {OfBuiltin : Builtin → Type 0} {OfDimension : Dimension → Type 0} {OfElement : Element → Type 0} {OfExpr : Expr → Type 0} {OfNamed : NamedOperand → Type 0} {OfOperand : Operand → Type 0} {OfType : TypeForm → Type 0} → Steps OfBounds OfBuiltin OfDimension OfElement OfExpr OfNamed OfOperand OfType → (x : NamedOperand-F Bounds Builtin Dimension Element Expr NamedOperand Operand TypeForm) (y : NamedOperand-F (With OfBounds) (With OfBuiltin) (With OfDimension) (With OfElement) (With OfExpr) (With OfNamed) (With OfOperand) (With OfType)) → map-NamedOperand _ _ _ _ _ _ _ _ _ _ _ _ _ _ _ _ (λ e. e.0) (λ e. e.0) (λ e. e.0) (λ e. e.0) (λ e. e.0) (λ e. e.0) (λ e. e.0) (λ e. e.0) y ≡ x → OfNamed (roll-NamedOperand x)
named_operand_step {OfBounds} {OfBuiltin} {OfDimension} {OfElement} {OfExpr} {OfNamed} {OfOperand} {OfType} steps x y is = subst (λ z. OfNamed (roll-NamedOperand z)) is (by y) where
  by : (y : NamedOperand-F (With OfBounds) (With OfBuiltin) (With OfDimension) (With OfElement) (With OfExpr) (With OfNamed) (With OfOperand) (With OfType)) → OfNamed (roll-NamedOperand (map-NamedOperand _ _ _ _ _ _ _ _ _ _ _ _ _ _ _ _ (λ e. e.0) (λ e. e.0) (λ e. e.0) (λ e. e.0) (λ e. e.0) (λ e. e.0) (λ e. e.0) (λ e. e.0) y))
  by (NamedOperand-F.NamedOperand::Element el) = subst OfNamed (sym (nv.rolls-Element el.0)) (steps.named_operand_element el.0 el.1)
  by (NamedOperand-F.NamedOperand::Literal l) = subst OfNamed (sym (nv.rolls-Literal l)) (steps.named_operand_literal l)
  by (NamedOperand-F.NamedOperand::Decorated l ty) = subst OfNamed (sym (nv.rolls-Decorated l ty.0)) (steps.named_operand_decorated l ty.0 ty.1)
  by (NamedOperand-F.NamedOperand::Truth b) = subst OfNamed (sym (nv.rolls-Truth b)) (steps.named_operand_truth b)
  by (NamedOperand-F.NamedOperand::Table e f es) = subst OfNamed (sym (nv.rolls-Table e.0 f.0 (map (λ e. e.0) es))) (steps.named_operand_table e.0 f.0 (map (λ e. e.0) es) e.1 f.1 (every OfExpr es))
  by (NamedOperand-F.NamedOperand::DecoratedTable e es ty) = subst OfNamed (sym (nv.rolls-DecoratedTable e.0 (map (λ e. e.0) es) ty.0)) (steps.named_operand_decorated_table e.0 (map (λ e. e.0) es) ty.0 e.1 (every OfExpr es) ty.1)
  by (NamedOperand-F.NamedOperand::Call n es) = subst OfNamed (sym (nv.rolls-Call n (map (λ e. e.0) es))) (steps.named_operand_call n (map (λ e. e.0) es) (every OfExpr es))

operand_step : {OfBounds : Bounds → Type 0} {OfBuiltin : Builtin → Type 0} {OfDimension : Dimension → Type 0} {OfElement : Element → Type 0} {OfExpr : Expr → Type 0} {OfNamed : NamedOperand → Type 0} {OfOperand : Operand → Type 0} {OfType : TypeForm → Type 0} → Steps OfBounds OfBuiltin OfDimension OfElement OfExpr OfNamed OfOperand OfType → (x : Operand-F Bounds Builtin Dimension Element Expr NamedOperand Operand TypeForm) (y : Operand-F (With OfBounds) (With OfBuiltin) (With OfDimension) (With OfElement) (With OfExpr) (With OfNamed) (With OfOperand) (With OfType)) → map-Operand _ _ _ _ _ _ _ _ _ _ _ _ _ _ _ _ (λ e. e.0) (λ e. e.0) (λ e. e.0) (λ e. e.0) (λ e. e.0) (λ e. e.0) (λ e. e.0) (λ e. e.0) y ≡ x → OfOperand (roll-Operand x)
operand_step {OfBounds} {OfBuiltin} {OfDimension} {OfElement} {OfExpr} {OfNamed} {OfOperand} {OfType} steps x y is = subst (λ z. OfOperand (roll-Operand z)) is (by y) where
  by : (y : Operand-F (With OfBounds) (With OfBuiltin) (With OfDimension) (With OfElement) (With OfExpr) (With OfNamed) (With OfOperand) (With OfType)) → OfOperand (roll-Operand (map-Operand _ _ _ _ _ _ _ _ _ _ _ _ _ _ _ _ (λ e. e.0) (λ e. e.0) (λ e. e.0) (λ e. e.0) (λ e. e.0) (λ e. e.0) (λ e. e.0) (λ e. e.0) y))
  by (Operand-F.Operand::Element el) = subst OfOperand (sym (ov.rolls-Element el.0)) (steps.operand_element el.0 el.1)
  by (Operand-F.Operand::Literal l) = subst OfOperand (sym (ov.rolls-Literal l)) (steps.operand_literal l)
  by (Operand-F.Operand::Decorated l ty) = subst OfOperand (sym (ov.rolls-Decorated l ty.0)) (steps.operand_decorated l ty.0 ty.1)
  by (Operand-F.Operand::Truth b) = subst OfOperand (sym (ov.rolls-Truth b)) (steps.operand_truth b)
  by (Operand-F.Parens e) = subst OfOperand (sym (ov.rolls-Parens e.0)) (steps.operand_parens e.0 e.1)
  by (Operand-F.Operand::Table e es) = subst OfOperand (sym (ov.rolls-Table e.0 (map (λ e. e.0) es))) (steps.operand_table e.0 (map (λ e. e.0) es) e.1 (every OfExpr es))
  by (Operand-F.Operand::DecoratedTable e es ty) = subst OfOperand (sym (ov.rolls-DecoratedTable e.0 (map (λ e. e.0) es) ty.0)) (steps.operand_decorated_table e.0 (map (λ e. e.0) es) ty.0 e.1 (every OfExpr es) ty.1)
  by (Operand-F.Operand::Call n es) = subst OfOperand (sym (ov.rolls-Call n (map (λ e. e.0) es))) (steps.operand_call n (map (λ e. e.0) es) (every OfExpr es))

type_form_step : {OfBounds : Bounds → Type 0} {OfBuiltin : Builtin → Type 0} {OfDimension : Dimension → Type 0} {OfElement : Element → Type 0} {OfExpr : Expr → Type 0} {OfNamed : NamedOperand → Type 0} {OfOperand : Operand → Type 0} {OfType : TypeForm → Type 0} → Steps OfBounds OfBuiltin OfDimension OfElement OfExpr OfNamed OfOperand OfType → (x : TypeForm-F Bounds Builtin Dimension Element Expr NamedOperand Operand TypeForm) (y : TypeForm-F (With OfBounds) (With OfBuiltin) (With OfDimension) (With OfElement) (With OfExpr) (With OfNamed) (With OfOperand) (With OfType)) → map-TypeForm _ _ _ _ _ _ _ _ _ _ _ _ _ _ _ _ (λ e. e.0) (λ e. e.0) (λ e. e.0) (λ e. e.0) (λ e. e.0) (λ e. e.0) (λ e. e.0) (λ e. e.0) y ≡ x → OfType (roll-TypeForm x)
type_form_step {OfBounds} {OfBuiltin} {OfDimension} {OfElement} {OfExpr} {OfNamed} {OfOperand} {OfType} steps x y is = subst (λ z. OfType (roll-TypeForm z)) is (by y) where
  by : (y : TypeForm-F (With OfBounds) (With OfBuiltin) (With OfDimension) (With OfElement) (With OfExpr) (With OfNamed) (With OfOperand) (With OfType)) → OfType (roll-TypeForm (map-TypeForm _ _ _ _ _ _ _ _ _ _ _ _ _ _ _ _ (λ e. e.0) (λ e. e.0) (λ e. e.0) (λ e. e.0) (λ e. e.0) (λ e. e.0) (λ e. e.0) (λ e. e.0) y))
  by (TypeForm-F.TypeForm::Named ds n) = subst OfType (sym (tv.rolls-Named (map (λ e. e.0) ds) n)) (steps.type_form_named (map (λ e. e.0) ds) n (every OfDimension ds))
  by (TypeForm-F.Builtin ds b) = subst OfType (sym (tv.rolls-Builtin (map (λ e. e.0) ds) b.0)) (steps.type_form_builtin (map (λ e. e.0) ds) b.0 (every OfDimension ds) b.1)

pub every_bounds : {OfBounds : Bounds → Type 0} {OfBuiltin : Builtin → Type 0} {OfDimension : Dimension → Type 0} {OfElement : Element → Type 0} {OfExpr : Expr → Type 0} {OfNamed : NamedOperand → Type 0} {OfOperand : Operand → Type 0} {OfType : TypeForm → Type 0} → Steps OfBounds OfBuiltin OfDimension OfElement OfExpr OfNamed OfOperand OfType → (x : Bounds) → OfBounds x
every_bounds {OfBounds} {OfBuiltin} {OfDimension} {OfElement} {OfExpr} {OfNamed} {OfOperand} {OfType} steps = ind-Bounds OfBounds OfBuiltin OfDimension OfElement OfExpr OfNamed OfOperand OfType (bounds_step steps) (builtin_step steps) (dimension_step steps) (element_step steps) (expr_step steps) (named_operand_step steps) (operand_step steps) (type_form_step steps)

pub every_builtin : {OfBounds : Bounds → Type 0} {OfBuiltin : Builtin → Type 0} {OfDimension : Dimension → Type 0} {OfElement : Element → Type 0} {OfExpr : Expr → Type 0} {OfNamed : NamedOperand → Type 0} {OfOperand : Operand → Type 0} {OfType : TypeForm → Type 0} → Steps OfBounds OfBuiltin OfDimension OfElement OfExpr OfNamed OfOperand OfType → (x : Builtin) → OfBuiltin x
every_builtin {OfBounds} {OfBuiltin} {OfDimension} {OfElement} {OfExpr} {OfNamed} {OfOperand} {OfType} steps = ind-Builtin OfBounds OfBuiltin OfDimension OfElement OfExpr OfNamed OfOperand OfType (bounds_step steps) (builtin_step steps) (dimension_step steps) (element_step steps) (expr_step steps) (named_operand_step steps) (operand_step steps) (type_form_step steps)

pub every_dimension : {OfBounds : Bounds → Type 0} {OfBuiltin : Builtin → Type 0} {OfDimension : Dimension → Type 0} {OfElement : Element → Type 0} {OfExpr : Expr → Type 0} {OfNamed : NamedOperand → Type 0} {OfOperand : Operand → Type 0} {OfType : TypeForm → Type 0} → Steps OfBounds OfBuiltin OfDimension OfElement OfExpr OfNamed OfOperand OfType → (x : Dimension) → OfDimension x
every_dimension {OfBounds} {OfBuiltin} {OfDimension} {OfElement} {OfExpr} {OfNamed} {OfOperand} {OfType} steps = ind-Dimension OfBounds OfBuiltin OfDimension OfElement OfExpr OfNamed OfOperand OfType (bounds_step steps) (builtin_step steps) (dimension_step steps) (element_step steps) (expr_step steps) (named_operand_step steps) (operand_step steps) (type_form_step steps)

pub every_element : {OfBounds : Bounds → Type 0} {OfBuiltin : Builtin → Type 0} {OfDimension : Dimension → Type 0} {OfElement : Element → Type 0} {OfExpr : Expr → Type 0} {OfNamed : NamedOperand → Type 0} {OfOperand : Operand → Type 0} {OfType : TypeForm → Type 0} → Steps OfBounds OfBuiltin OfDimension OfElement OfExpr OfNamed OfOperand OfType → (x : Element) → OfElement x
every_element {OfBounds} {OfBuiltin} {OfDimension} {OfElement} {OfExpr} {OfNamed} {OfOperand} {OfType} steps = ind-Element OfBounds OfBuiltin OfDimension OfElement OfExpr OfNamed OfOperand OfType (bounds_step steps) (builtin_step steps) (dimension_step steps) (element_step steps) (expr_step steps) (named_operand_step steps) (operand_step steps) (type_form_step steps)

pub every_expr : {OfBounds : Bounds → Type 0} {OfBuiltin : Builtin → Type 0} {OfDimension : Dimension → Type 0} {OfElement : Element → Type 0} {OfExpr : Expr → Type 0} {OfNamed : NamedOperand → Type 0} {OfOperand : Operand → Type 0} {OfType : TypeForm → Type 0} → Steps OfBounds OfBuiltin OfDimension OfElement OfExpr OfNamed OfOperand OfType → (x : Expr) → OfExpr x
every_expr {OfBounds} {OfBuiltin} {OfDimension} {OfElement} {OfExpr} {OfNamed} {OfOperand} {OfType} steps = ind-Expr OfBounds OfBuiltin OfDimension OfElement OfExpr OfNamed OfOperand OfType (bounds_step steps) (builtin_step steps) (dimension_step steps) (element_step steps) (expr_step steps) (named_operand_step steps) (operand_step steps) (type_form_step steps)

pub every_named_operand : {OfBounds : Bounds → Type 0} {OfBuiltin : Builtin → Type 0} {OfDimension : Dimension → Type 0} {OfElement : Element → Type 0} {OfExpr : Expr → Type 0} {OfNamed : NamedOperand → Type 0} {OfOperand : Operand → Type 0} {OfType : TypeForm → Type 0} → Steps OfBounds OfBuiltin OfDimension OfElement OfExpr OfNamed OfOperand OfType → (x : NamedOperand) → OfNamed x
every_named_operand {OfBounds} {OfBuiltin} {OfDimension} {OfElement} {OfExpr} {OfNamed} {OfOperand} {OfType} steps = ind-NamedOperand OfBounds OfBuiltin OfDimension OfElement OfExpr OfNamed OfOperand OfType (bounds_step steps) (builtin_step steps) (dimension_step steps) (element_step steps) (expr_step steps) (named_operand_step steps) (operand_step steps) (type_form_step steps)

pub every_operand : {OfBounds : Bounds → Type 0} {OfBuiltin : Builtin → Type 0} {OfDimension : Dimension → Type 0} {OfElement : Element → Type 0} {OfExpr : Expr → Type 0} {OfNamed : NamedOperand → Type 0} {OfOperand : Operand → Type 0} {OfType : TypeForm → Type 0} → Steps OfBounds OfBuiltin OfDimension OfElement OfExpr OfNamed OfOperand OfType → (x : Operand) → OfOperand x
every_operand {OfBounds} {OfBuiltin} {OfDimension} {OfElement} {OfExpr} {OfNamed} {OfOperand} {OfType} steps = ind-Operand OfBounds OfBuiltin OfDimension OfElement OfExpr OfNamed OfOperand OfType (bounds_step steps) (builtin_step steps) (dimension_step steps) (element_step steps) (expr_step steps) (named_operand_step steps) (operand_step steps) (type_form_step steps)

pub every_type_form : {OfBounds : Bounds → Type 0} {OfBuiltin : Builtin → Type 0} {OfDimension : Dimension → Type 0} {OfElement : Element → Type 0} {OfExpr : Expr → Type 0} {OfNamed : NamedOperand → Type 0} {OfOperand : Operand → Type 0} {OfType : TypeForm → Type 0} → Steps OfBounds OfBuiltin OfDimension OfElement OfExpr OfNamed OfOperand OfType → (x : TypeForm) → OfType x
every_type_form {OfBounds} {OfBuiltin} {OfDimension} {OfElement} {OfExpr} {OfNamed} {OfOperand} {OfType} steps = ind-TypeForm OfBounds OfBuiltin OfDimension OfElement OfExpr OfNamed OfOperand OfType (bounds_step steps) (builtin_step steps) (dimension_step steps) (element_step steps) (expr_step steps) (named_operand_step steps) (operand_step steps) (type_form_step steps)
