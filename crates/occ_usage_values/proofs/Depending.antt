-- What expressions, elements and actuals use is the same in scopes that differ in the value of a specification alone, if no subscript
-- and no bound in them names that.
use Rattle.std.proofs.Common.{◌≡◌, ◌∙◌, ℕ, false, None, List, [], ◌∷◌, map, sym, subst}
use Rattle.occ_typing_rules.specs.declared.expr.Selector.{Selector}
use Rattle.occ_typing_rules.specs.declared.expr.Selector.TheFolds.{ind-TypedActual, ind-TypedExpr, map-TypedActual, map-TypedExpr}
use Rattle.occ_typing_rules.specs.declared.expr.Selector.TheOpen.{TypedActual-F, TypedExpr-F}
use Rattle.occ_typing_rules.specs.declared.expr.TypedActual.{TypedActual, roll-TypedActual}
use Rattle.occ_typing_rules.specs.declared.expr.TypedActual.TheVariants as av
use Rattle.occ_typing_rules.specs.declared.expr.TypedElement.{TypedElement, out-TypedElement}
use Rattle.occ_typing_rules.specs.declared.expr.TypedExpr.{TypedExpr, roll-TypedExpr}
use Rattle.occ_typing_rules.specs.declared.expr.TypedExpr.TheVariants as tv
use Rattle.occ_usage_values.specs.Naming.{actual_depends, actuals_depend, element_depends, expr_depends, exprs_depend, selectors_name}
use Rattle.occ_usage_values.specs.Values.{converted_to, known_or, one, size_value}
use Rattle.occ_usage_values.specs.Views.{actual_view, actual_views, element_view, expr_view, expr_views, folded_all}
use Rattle.occ_usage_values.proofs.Differing.{ActualSame, ElementAlike, Every, ExprAlike, actual_value_same, actual_variable_same, around_alike, call_same, element_read_alike, element_step_alike, expr_alike, left_false, parts_alike, right_false}
use Rattle.occ_usage_values.proofs.Names as names
use Rattle.occ_usage_values.proofs.Sameness.{all_selectors_same}
use Rattle.occ_usage_values.proofs.Views as views

abbrev pub ExprStays : ℕ → TypedExpr → Type 0
ExprStays d e = expr_depends d e ≡ false → ExprAlike d (expr_view e)

abbrev pub ElementStays : ℕ → TypedElement → Type 0
ElementStays d el = element_depends d el ≡ false → ElementAlike d (element_view el)

abbrev pub ActualStays : ℕ → TypedActual → Type 0
ActualStays d x = actual_depends d x ≡ false → ActualSame d (actual_view x)

-- those of which it holds
abbrev With : {X : Type 0} → (X → Type 0) → Type 0
With {X} P = (x : X) × P x

abbrev Any : Type 0 → Type 0
Any X = (x : X) × Unit {0}

pub element_stays : (d : ℕ) (el : TypedElement) → ElementStays d el
element_stays d el h =
    let free : selectors_name d (out-TypedElement el).selectors ≡ false = sym (names.element_of_depends d el) ∙ h in
    subst (ElementAlike d) (sym (views.element_view_of el)) (element_step_alike d (views.element_layer el) (all_selectors_same d (out-TypedElement el).selectors free))

exprs_stay : (d : ℕ) (xs : List (With (ExprStays d))) → exprs_depend d (map (λ x. x.0) xs) ≡ false → Every (ExprAlike d) (expr_views (map (λ x. x.0) xs))
exprs_stay d [] h = tt
exprs_stay d (x ∷ xs) h = (x.1 (left_false (expr_depends d x.0) (exprs_depend d (map (λ y. y.0) xs)) h), exprs_stay d xs (right_false (expr_depends d x.0) (exprs_depend d (map (λ y. y.0) xs)) h))

actuals_stay : (d : ℕ) (xs : List (With (ActualStays d))) → actuals_depend d (map (λ x. x.0) xs) ≡ false → Every (ActualSame d) (actual_views (map (λ x. x.0) xs))
actuals_stay d [] h = tt
actuals_stay d (x ∷ xs) h = (x.1 (left_false (actual_depends d x.0) (actuals_depend d (map (λ y. y.0) xs)) h), actuals_stay d xs (right_false (actual_depends d x.0) (actuals_depend d (map (λ y. y.0) xs)) h))

abbrev ExprOver : ℕ → Type 0
ExprOver d = TypedExpr-F (Any Selector) (With (ActualStays d)) (With (ExprStays d)) (Any TypedElement)

expr_case : (d : ℕ) (y : ExprOver d) → ExprStays d (roll-TypedExpr (map-TypedExpr _ _ _ _ _ _ _ _ (λ e. e.0) (λ e. e.0) (λ e. e.0) (λ e. e.0) y))
expr_case d (TypedExpr-F.Literal x) = subst (ExprStays d) (sym (tv.rolls-Literal x)) (λ h. subst (ExprAlike d) (sym (views.expr_literal x)) (parts_alike d (λ env. x.value) [] tt))
expr_case d (TypedExpr-F.Element el) =
    subst (ExprStays d) (sym (tv.rolls-Element el.0)) (λ h. subst (ExprAlike d) (sym (views.expr_element el.0)) (element_read_alike d (element_view el.0) (element_stays d el.0 (sym (names.expr_element_depends d el.0) ∙ h))))
expr_case d (TypedExpr-F.Operation x op ys) =
    let es = map (λ e. e.0) ys in
    subst (ExprStays d) (sym (tv.rolls-Operation x op es)) (λ h. subst (ExprAlike d) (sym (views.expr_operation x op es))
    (parts_alike d (λ env. known_or x.value (folded_all op (expr_views es) env)) (expr_views es) (exprs_stay d ys (sym (names.expr_operation_depends d x op es) ∙ h))))
expr_case d (TypedExpr-F.Applied x op e) =
    subst (ExprStays d) (sym (tv.rolls-Applied x op e.0)) (λ h. subst (ExprAlike d) (sym (views.expr_applied x op e.0))
    (around_alike d (λ env. known_or x.value (one op ((expr_view e.0).value env))) (expr_view e.0) (e.1 (sym (names.expr_applied_depends d x op e.0) ∙ h))))
expr_case d (TypedExpr-F.Size x e) =
    subst (ExprStays d) (sym (tv.rolls-Size x e.0)) (λ h. subst (ExprAlike d) (sym (views.expr_size x e.0)) (parts_alike d (λ env. known_or x.value (size_value ((expr_view e.0).size env))) [] tt))
expr_case d (TypedExpr-F.Converted x e) =
    subst (ExprStays d) (sym (tv.rolls-Converted x e.0)) (λ h. subst (ExprAlike d) (sym (views.expr_converted x e.0))
    (around_alike d (λ env. known_or x.value (converted_to x.of ((expr_view e.0).value env))) (expr_view e.0) (e.1 (sym (names.expr_converted_depends d x e.0) ∙ h))))
expr_case d (TypedExpr-F.Table x ys) =
    let es = map (λ e. e.0) ys in
    subst (ExprStays d) (sym (tv.rolls-Table x es)) (λ h. subst (ExprAlike d) (sym (views.expr_table x es)) (parts_alike d (λ env. None) (expr_views es) (exprs_stay d ys (sym (names.expr_table_depends d x es) ∙ h))))
expr_case d (TypedExpr-F.Call x callee ys) =
    let xs = map (λ e. e.0) ys in
    subst (ExprStays d) (sym (tv.rolls-Call x callee xs)) (λ h. subst (ExprAlike d) (sym (views.expr_call x callee xs))
    (expr_alike d _ (call_same d x callee (actual_views xs) (actuals_stay d ys (sym (names.expr_call_depends d x callee xs) ∙ h)))))

abbrev ActualOver : ℕ → Type 0
ActualOver d = TypedActual-F (Any Selector) (With (ActualStays d)) (With (ExprStays d)) (Any TypedElement)

actual_case : (d : ℕ) (y : ActualOver d) → ActualStays d (roll-TypedActual (map-TypedActual _ _ _ _ _ _ _ _ (λ e. e.0) (λ e. e.0) (λ e. e.0) (λ e. e.0) y))
actual_case d (TypedActual-F.Value e) =
    subst (ActualStays d) (sym (av.rolls-Value e.0)) (λ h. subst (ActualSame d) (sym (views.actual_value e.0)) (actual_value_same d (expr_view e.0) (e.1 (sym (names.actual_value_depends d e.0) ∙ h))))
actual_case d (TypedActual-F.Variable el) =
    subst (ActualStays d) (sym (av.rolls-Variable el.0)) (λ h. subst (ActualSame d) (sym (views.actual_variable el.0)) (actual_variable_same d (element_view el.0) (element_stays d el.0 (sym (names.actual_variable_depends d el.0) ∙ h))))

expr_step : (d : ℕ) (x : TypedExpr-F Selector TypedActual TypedExpr TypedElement) (y : ExprOver d) → map-TypedExpr _ _ _ _ _ _ _ _ (λ e. e.0) (λ e. e.0) (λ e. e.0) (λ e. e.0) y ≡ x → ExprStays d (roll-TypedExpr x)
expr_step d x y is = subst (λ z. ExprStays d (roll-TypedExpr z)) is (expr_case d y)

actual_step : (d : ℕ) (x : TypedActual-F Selector TypedActual TypedExpr TypedElement) (y : ActualOver d) → map-TypedActual _ _ _ _ _ _ _ _ (λ e. e.0) (λ e. e.0) (λ e. e.0) (λ e. e.0) y ≡ x → ActualStays d (roll-TypedActual x)
actual_step d x y is = subst (λ z. ActualStays d (roll-TypedActual z)) is (actual_case d y)

pub expr_stays : (d : ℕ) (e : TypedExpr) → ExprStays d e
expr_stays d = ind-TypedExpr (λ _. Unit {0}) (ActualStays d) (ExprStays d) (λ _. Unit {0}) (λ x y e. tt) (actual_step d) (expr_step d) (λ x y e. tt)

actual_stays : (d : ℕ) (x : TypedActual) → ActualStays d x
actual_stays d = ind-TypedActual (λ _. Unit {0}) (ActualStays d) (ExprStays d) (λ _. Unit {0}) (λ x y e. tt) (actual_step d) (expr_step d) (λ x y e. tt)

pub all_actuals_stay : (d : ℕ) (xs : List TypedActual) → actuals_depend d xs ≡ false → Every (ActualSame d) (actual_views xs)
all_actuals_stay d [] h = tt
all_actuals_stay d (x ∷ xs) h = (actual_stays d x (left_false (actual_depends d x) (actuals_depend d xs) h), all_actuals_stay d xs (right_false (actual_depends d x) (actuals_depend d xs) h))
