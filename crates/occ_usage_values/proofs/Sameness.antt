-- Expressions, elements, selectors and actuals that do not name a specification are the same in scopes that differ in its value alone.
use Rattle.std.proofs.Common.{◌≡◌, ◌∙◌, ◌||◌, ◌==◌, ℕ, false, List, [], ◌∷◌, map, ap, sym, subst}
use Rattle.occ_typing_rules.specs.declared.expr.Selector.{Selector, roll-Selector}
use Rattle.occ_typing_rules.specs.declared.expr.Selector.TheFolds.{ind-Selector, ind-TypedElement, ind-TypedExpr, map-Selector, map-TypedActual, map-TypedElement, map-TypedExpr}
use Rattle.occ_typing_rules.specs.declared.expr.Selector.TheOpen.{Selector-F, TypedActual-F, TypedElement-F, TypedExpr-F}
use Rattle.occ_typing_rules.specs.declared.expr.Selector.TheVariants as sv
use Rattle.occ_typing_rules.specs.declared.expr.Selector.TheViews.{out-roll-TypedElement}
use Rattle.occ_typing_rules.specs.declared.expr.TypedActual.{TypedActual, roll-TypedActual}
use Rattle.occ_typing_rules.specs.declared.expr.TypedActual.TheVariants as av
use Rattle.occ_typing_rules.specs.declared.expr.TypedElement.{TypedElement, out-TypedElement, roll-TypedElement}
use Rattle.occ_typing_rules.specs.declared.expr.TypedExpr.{TypedExpr, roll-TypedExpr}
use Rattle.occ_typing_rules.specs.declared.expr.TypedExpr.TheVariants as tv
use Rattle.occ_usage_values.specs.Naming.{actual_names, actuals_name, element_names, expr_names, exprs_name, selector_names, selectors_name}
use Rattle.occ_usage_values.specs.Views.{actual_view, actual_views, element_view, expr_view, expr_views, selector_view, selector_views}
use Rattle.occ_usage_values.proofs.Differing.{ActualSame, ElementSame, Every, ExprSame, SelectorSame, actual_value_same, actual_variable_same, applied_same, call_same, component_same, converted_same, element_alike, element_read_same, element_step_same, expr_alike, field_same, for_same, from_for_same, from_same, left_false, literal_same, operation_same, right_false, size_of_same, table_same}
use Rattle.occ_usage_values.proofs.Names as names
use Rattle.occ_usage_values.proofs.Views as views

abbrev pub OfExpr : ℕ → TypedExpr → Type 0
OfExpr d e = expr_names d e ≡ false → ExprSame d (expr_view e)

abbrev pub OfElement : ℕ → TypedElement → Type 0
OfElement d el = element_names d el ≡ false → ElementSame d (element_view el)

abbrev pub OfSelector : ℕ → Selector → Type 0
OfSelector d s = selector_names d s ≡ false → SelectorSame d (selector_view s)

abbrev pub OfActual : ℕ → TypedActual → Type 0
OfActual d x = actual_names d x ≡ false → ActualSame d (actual_view x)

-- those of which it holds
abbrev With : {X : Type 0} → (X → Type 0) → Type 0
With {X} P = (x : X) × P x

exprs_same : (d : ℕ) (xs : List (With (OfExpr d))) → exprs_name d (map (λ x. x.0) xs) ≡ false → Every (ExprSame d) (expr_views (map (λ x. x.0) xs))
exprs_same d [] h = tt
exprs_same d (x ∷ xs) h = (x.1 (left_false (expr_names d x.0) (exprs_name d (map (λ y. y.0) xs)) h), exprs_same d xs (right_false (expr_names d x.0) (exprs_name d (map (λ y. y.0) xs)) h))

selectors_same : (d : ℕ) (xs : List (With (OfSelector d))) → selectors_name d (map (λ x. x.0) xs) ≡ false → Every (SelectorSame d) (selector_views (map (λ x. x.0) xs))
selectors_same d [] h = tt
selectors_same d (x ∷ xs) h = (x.1 (left_false (selector_names d x.0) (selectors_name d (map (λ y. y.0) xs)) h), selectors_same d xs (right_false (selector_names d x.0) (selectors_name d (map (λ y. y.0) xs)) h))

actuals_same : (d : ℕ) (xs : List (With (OfActual d))) → actuals_name d (map (λ x. x.0) xs) ≡ false → Every (ActualSame d) (actual_views (map (λ x. x.0) xs))
actuals_same d [] h = tt
actuals_same d (x ∷ xs) h = (x.1 (left_false (actual_names d x.0) (actuals_name d (map (λ y. y.0) xs)) h), actuals_same d xs (right_false (actual_names d x.0) (actuals_name d (map (λ y. y.0) xs)) h))

abbrev ExprOver : ℕ → Type 0
ExprOver d = TypedExpr-F (With (OfSelector d)) (With (OfActual d)) (With (OfExpr d)) (With (OfElement d))

expr_case : (d : ℕ) (y : ExprOver d) → OfExpr d (roll-TypedExpr (map-TypedExpr _ _ _ _ _ _ _ _ (λ e. e.0) (λ e. e.0) (λ e. e.0) (λ e. e.0) y))
expr_case d (TypedExpr-F.Literal x) = subst (OfExpr d) (sym (tv.rolls-Literal x)) (λ h. subst (ExprSame d) (sym (views.expr_literal x)) (literal_same d x))
expr_case d (TypedExpr-F.Element el) =
    subst (OfExpr d) (sym (tv.rolls-Element el.0)) (λ h. subst (ExprSame d) (sym (views.expr_element el.0)) (element_read_same d (element_view el.0) (el.1 (sym (names.expr_element d el.0) ∙ h))))
expr_case d (TypedExpr-F.Operation x op ys) =
    let es = map (λ e. e.0) ys in
    subst (OfExpr d) (sym (tv.rolls-Operation x op es)) (λ h. subst (ExprSame d) (sym (views.expr_operation x op es)) (operation_same d x op (expr_views es) (exprs_same d ys (sym (names.expr_operation d x op es) ∙ h))))
expr_case d (TypedExpr-F.Applied x op e) =
    subst (OfExpr d) (sym (tv.rolls-Applied x op e.0)) (λ h. subst (ExprSame d) (sym (views.expr_applied x op e.0)) (applied_same d x op (expr_view e.0) (e.1 (sym (names.expr_applied d x op e.0) ∙ h))))
expr_case d (TypedExpr-F.Size x e) =
    subst (OfExpr d) (sym (tv.rolls-Size x e.0)) (λ h. subst (ExprSame d) (sym (views.expr_size x e.0)) (size_of_same d x (expr_view e.0) (e.1 (sym (names.expr_size d x e.0) ∙ h))))
expr_case d (TypedExpr-F.Converted x e) =
    subst (OfExpr d) (sym (tv.rolls-Converted x e.0)) (λ h. subst (ExprSame d) (sym (views.expr_converted x e.0)) (converted_same d x (expr_view e.0) (e.1 (sym (names.expr_converted d x e.0) ∙ h))))
expr_case d (TypedExpr-F.Table x ys) =
    let es = map (λ e. e.0) ys in
    subst (OfExpr d) (sym (tv.rolls-Table x es)) (λ h. subst (ExprSame d) (sym (views.expr_table x es)) (table_same d x (expr_views es) (exprs_same d ys (sym (names.expr_table d x es) ∙ h))))
expr_case d (TypedExpr-F.Call x callee ys) =
    let xs = map (λ e. e.0) ys in
    subst (OfExpr d) (sym (tv.rolls-Call x callee xs)) (λ h. subst (ExprSame d) (sym (views.expr_call x callee xs)) (call_same d x callee (actual_views xs) (actuals_same d ys (sym (names.expr_call d x callee xs) ∙ h))))

abbrev ActualOver : ℕ → Type 0
ActualOver d = TypedActual-F (With (OfSelector d)) (With (OfActual d)) (With (OfExpr d)) (With (OfElement d))

actual_case : (d : ℕ) (y : ActualOver d) → OfActual d (roll-TypedActual (map-TypedActual _ _ _ _ _ _ _ _ (λ e. e.0) (λ e. e.0) (λ e. e.0) (λ e. e.0) y))
actual_case d (TypedActual-F.Value e) =
    subst (OfActual d) (sym (av.rolls-Value e.0)) (λ h. subst (ActualSame d) (sym (views.actual_value e.0)) (actual_value_same d (expr_view e.0) (expr_alike d (expr_view e.0) (e.1 (sym (names.actual_value d e.0) ∙ h)))))
actual_case d (TypedActual-F.Variable el) =
    subst (OfActual d) (sym (av.rolls-Variable el.0)) (λ h. subst (ActualSame d) (sym (views.actual_variable el.0)) (actual_variable_same d (element_view el.0) (element_alike d (element_view el.0) (el.1 (sym (names.actual_variable d el.0) ∙ h)))))

abbrev SelectorOver : ℕ → Type 0
SelectorOver d = Selector-F (With (OfSelector d)) (With (OfActual d)) (With (OfExpr d)) (With (OfElement d))

selector_case : (d : ℕ) (y : SelectorOver d) → OfSelector d (roll-Selector (map-Selector _ _ _ _ _ _ _ _ (λ e. e.0) (λ e. e.0) (λ e. e.0) (λ e. e.0) y))
selector_case d (Selector-F.Field k name) = subst (OfSelector d) (sym (sv.rolls-Field k name)) (λ h. subst (SelectorSame d) (sym (views.selector_field k name)) (field_same d k name))
selector_case d (Selector-F.Component e) =
    subst (OfSelector d) (sym (sv.rolls-Component e.0)) (λ h. subst (SelectorSame d) (sym (views.selector_component e.0)) (component_same d (expr_view e.0) (e.1 (sym (names.selector_component d e.0) ∙ h))))
selector_case d (Selector-F.From n e) =
    subst (OfSelector d) (sym (sv.rolls-From n e.0)) (λ h. subst (SelectorSame d) (sym (views.selector_from n e.0)) (from_same d n (expr_view e.0) (e.1 (sym (names.selector_from d n e.0) ∙ h))))
selector_case d (Selector-F.For n e) =
    subst (OfSelector d) (sym (sv.rolls-For n e.0)) (λ h. subst (SelectorSame d) (sym (views.selector_for n e.0)) (for_same d n (expr_view e.0) (e.1 (sym (names.selector_for d n e.0) ∙ h))))
selector_case d (Selector-F.FromFor n e f) =
    subst (OfSelector d) (sym (sv.rolls-FromFor n e.0 f.0)) (λ h.
    let both : (expr_names d e.0 || expr_names d f.0) ≡ false = sym (names.selector_from_for d n e.0 f.0) ∙ h in
    subst (SelectorSame d) (sym (views.selector_from_for n e.0 f.0)) (from_for_same d n (expr_view e.0) (expr_view f.0) (e.1 (left_false (expr_names d e.0) (expr_names d f.0) both)) (f.1 (right_false (expr_names d e.0) (expr_names d f.0) both))))

abbrev ElementOver : ℕ → Type 0
ElementOver d = TypedElement-F (With (OfSelector d)) (With (OfActual d)) (With (OfExpr d)) (With (OfElement d))

-- an element whose selectors are these
element_case : (d : ℕ) (el : TypedElement) (ss : List (With (OfSelector d))) → (out-TypedElement el).selectors ≡ map (λ e. e.0) ss → OfElement d el
element_case d el ss are h =
    let parts : ((out-TypedElement el).referent.spec == d || selectors_name d (out-TypedElement el).selectors) ≡ false = sym (names.element_of d el) ∙ h in
    let own = left_false ((out-TypedElement el).referent.spec == d) (selectors_name d (out-TypedElement el).selectors) parts in
    let others : selectors_name d (out-TypedElement el).selectors ≡ false = right_false ((out-TypedElement el).referent.spec == d) (selectors_name d (out-TypedElement el).selectors) parts in
    subst (ElementSame d) (sym (views.element_view_of el)) (element_step_same d (views.element_layer el) own
    (subst (λ (xs : List Selector). selectors_name d xs ≡ false → Every (SelectorSame d) (selector_views xs)) (sym are) (selectors_same d ss) others))

expr_step : (d : ℕ) (x : TypedExpr-F Selector TypedActual TypedExpr TypedElement) (y : ExprOver d) → map-TypedExpr _ _ _ _ _ _ _ _ (λ e. e.0) (λ e. e.0) (λ e. e.0) (λ e. e.0) y ≡ x → OfExpr d (roll-TypedExpr x)
expr_step d x y is = subst (λ z. OfExpr d (roll-TypedExpr z)) is (expr_case d y)

actual_step : (d : ℕ) (x : TypedActual-F Selector TypedActual TypedExpr TypedElement) (y : ActualOver d) → map-TypedActual _ _ _ _ _ _ _ _ (λ e. e.0) (λ e. e.0) (λ e. e.0) (λ e. e.0) y ≡ x → OfActual d (roll-TypedActual x)
actual_step d x y is = subst (λ z. OfActual d (roll-TypedActual z)) is (actual_case d y)

selector_step : (d : ℕ) (x : Selector-F Selector TypedActual TypedExpr TypedElement) (y : SelectorOver d) → map-Selector _ _ _ _ _ _ _ _ (λ e. e.0) (λ e. e.0) (λ e. e.0) (λ e. e.0) y ≡ x → OfSelector d (roll-Selector x)
selector_step d x y is = subst (λ z. OfSelector d (roll-Selector z)) is (selector_case d y)

element_step : (d : ℕ) (x : TypedElement-F Selector TypedActual TypedExpr TypedElement) (y : ElementOver d) → map-TypedElement _ _ _ _ _ _ _ _ (λ e. e.0) (λ e. e.0) (λ e. e.0) (λ e. e.0) y ≡ x → OfElement d (roll-TypedElement x)
element_step d x y is = subst (λ z. OfElement d (roll-TypedElement z)) is (element_case d (roll-TypedElement (map-TypedElement _ _ _ _ _ _ _ _ (λ e. e.0) (λ e. e.0) (λ e. e.0) (λ e. e.0) y)) y.selectors (by y)) where
  by : (y : ElementOver d) → (out-TypedElement (roll-TypedElement (map-TypedElement _ _ _ _ _ _ _ _ (λ e. e.0) (λ e. e.0) (λ e. e.0) (λ e. e.0) y))).selectors ≡ map (λ e. e.0) y.selectors
  by y = ap (λ z. z.selectors) (out-roll-TypedElement (map-TypedElement _ _ _ _ _ _ _ _ (λ e. e.0) (λ e. e.0) (λ e. e.0) (λ e. e.0) y))

pub expr_same : (d : ℕ) (e : TypedExpr) → OfExpr d e
expr_same d = ind-TypedExpr (OfSelector d) (OfActual d) (OfExpr d) (OfElement d) (selector_step d) (actual_step d) (expr_step d) (element_step d)

pub element_same : (d : ℕ) (el : TypedElement) → OfElement d el
element_same d = ind-TypedElement (OfSelector d) (OfActual d) (OfExpr d) (OfElement d) (selector_step d) (actual_step d) (expr_step d) (element_step d)

selector_same : (d : ℕ) (s : Selector) → OfSelector d s
selector_same d = ind-Selector (OfSelector d) (OfActual d) (OfExpr d) (OfElement d) (selector_step d) (actual_step d) (expr_step d) (element_step d)

pub all_selectors_same : (d : ℕ) (xs : List Selector) → selectors_name d xs ≡ false → Every (SelectorSame d) (selector_views xs)
all_selectors_same d [] h = tt
all_selectors_same d (x ∷ xs) h = (selector_same d x (left_false (selector_names d x) (selectors_name d xs) h), all_selectors_same d xs (right_false (selector_names d x) (selectors_name d xs) h))
