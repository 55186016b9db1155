-- What the rules know of expressions, selectors, actuals and elements, by their forms.
use Rattle.std.proofs.Common.{◌≡◌, ◌∙◌, List, [], ◌∷◌, map, refl, ap, sym}
use Rattle.occ_typing_rules.specs.declared.expr.Selector.{Selector, out-Selector, roll-Selector}
use Rattle.occ_typing_rules.specs.declared.expr.Selector.TheFolds.{fold-roll-Selector, fold-roll-TypedActual, fold-roll-TypedElement, fold-roll-TypedExpr}
use Rattle.occ_typing_rules.specs.declared.expr.Selector.TheOpen.{Selector-F, TypedActual-F, TypedElement-F, TypedExpr-F}
use Rattle.occ_typing_rules.specs.declared.expr.Selector.TheViews.{roll-out-Selector, roll-out-TypedActual, roll-out-TypedElement, roll-out-TypedExpr}
use Rattle.occ_typing_rules.specs.declared.expr.TypedActual.{TypedActual, out-TypedActual, roll-TypedActual}
use Rattle.occ_typing_rules.specs.declared.expr.TypedElement.{TypedElement, out-TypedElement}
use Rattle.occ_typing_rules.specs.declared.expr.TypedExpr.{TypedExpr, out-TypedExpr, roll-TypedExpr}
use Rattle.occ_usage_values.specs.Views.{ActualView, ElementView, ExprView, SelectorView, actual_step, actual_view, actual_views, element_step, element_view, expr_step, expr_view, expr_views, selector_step, selector_view, selector_views}
use Rattle.occ_running.specs.Works.{ExprForm, SelectorForm}
use Rattle.occ_sound.specs.Covering.{form_view}

all_exprs : (xs : List TypedExpr) → map expr_view xs ≡ expr_views xs
all_exprs [] = refl
all_exprs (x ∷ xs) = ap (λ (ys : List ExprView). expr_view x ∷ ys) (all_exprs xs)

all_selectors : (xs : List Selector) → map selector_view xs ≡ selector_views xs
all_selectors [] = refl
all_selectors (x ∷ xs) = ap (λ (ys : List SelectorView). selector_view x ∷ ys) (all_selectors xs)

all_actuals : (xs : List TypedActual) → map actual_view xs ≡ actual_views xs
all_actuals [] = refl
all_actuals (x ∷ xs) = ap (λ (ys : List ActualView). actual_view x ∷ ys) (all_actuals xs)

abbrev opened_expr : (o : ExprForm) → Type 0
opened_expr o = expr_view (roll-TypedExpr o) ≡ form_view o

by_expr : (o : ExprForm) → opened_expr o
by_expr (TypedExpr-F.Literal x) = fold-roll-TypedExpr SelectorView ActualView ExprView ElementView selector_step actual_step expr_step element_step (TypedExpr-F.Literal x)
by_expr (TypedExpr-F.Element el) = fold-roll-TypedExpr SelectorView ActualView ExprView ElementView selector_step actual_step expr_step element_step (TypedExpr-F.Element el)
by_expr (TypedExpr-F.Operation x op es) =
    fold-roll-TypedExpr SelectorView ActualView ExprView ElementView selector_step actual_step expr_step element_step (TypedExpr-F.Operation x op es)
    ∙ ap (λ (ys : List ExprView). expr_step (TypedExpr-F.Operation x op ys)) (all_exprs es)
by_expr (TypedExpr-F.Applied x op e) = fold-roll-TypedExpr SelectorView ActualView ExprView ElementView selector_step actual_step expr_step element_step (TypedExpr-F.Applied x op e)
by_expr (TypedExpr-F.Size x e) = fold-roll-TypedExpr SelectorView ActualView ExprView ElementView selector_step actual_step expr_step element_step (TypedExpr-F.Size x e)
by_expr (TypedExpr-F.Converted x e) = fold-roll-TypedExpr SelectorView ActualView ExprView ElementView selector_step actual_step expr_step element_step (TypedExpr-F.Converted x e)
by_expr (TypedExpr-F.Table x es) =
    fold-roll-TypedExpr SelectorView ActualView ExprView ElementView selector_step actual_step expr_step element_step (TypedExpr-F.Table x es)
    ∙ ap (λ (ys : List ExprView). expr_step (TypedExpr-F.Table x ys)) (all_exprs es)
by_expr (TypedExpr-F.Call x callee xs) =
    fold-roll-TypedExpr SelectorView ActualView ExprView ElementView selector_step actual_step expr_step element_step (TypedExpr-F.Call x callee xs)
    ∙ ap (λ (ys : List ActualView). expr_step (TypedExpr-F.Call x callee ys)) (all_actuals xs)

pub expr_form : (e : TypedExpr) → expr_view e ≡ form_view (out-TypedExpr e)
expr_form e = ap expr_view (sym (roll-out-TypedExpr e)) ∙ by_expr (out-TypedExpr e)

-- ---- selectors and actuals

abbrev pub selector_form : SelectorForm → SelectorView
selector_form (Selector-F.Field k name) = selector_step (Selector-F.Field k name)
selector_form (Selector-F.Component e) = selector_step (Selector-F.Component (expr_view e))
selector_form (Selector-F.From n e) = selector_step (Selector-F.From n (expr_view e))
selector_form (Selector-F.For n e) = selector_step (Selector-F.For n (expr_view e))
selector_form (Selector-F.FromFor n e f) = selector_step (Selector-F.FromFor n (expr_view e) (expr_view f))

by_selector : (o : SelectorForm) → selector_view (roll-Selector o) ≡ selector_form o
by_selector (Selector-F.Field k name) = fold-roll-Selector SelectorView ActualView ExprView ElementView selector_step actual_step expr_step element_step (Selector-F.Field k name)
by_selector (Selector-F.Component e) = fold-roll-Selector SelectorView ActualView ExprView ElementView selector_step actual_step expr_step element_step (Selector-F.Component e)
by_selector (Selector-F.From n e) = fold-roll-Selector SelectorView ActualView ExprView ElementView selector_step actual_step expr_step element_step (Selector-F.From n e)
by_selector (Selector-F.For n e) = fold-roll-Selector SelectorView ActualView ExprView ElementView selector_step actual_step expr_step element_step (Selector-F.For n e)
by_selector (Selector-F.FromFor n e f) = fold-roll-Selector SelectorView ActualView ExprView ElementView selector_step actual_step expr_step element_step (Selector-F.FromFor n e f)

pub selector_opened : (s : Selector) → selector_view s ≡ selector_form (out-Selector s)
selector_opened s = ap selector_view (sym (roll-out-Selector s)) ∙ by_selector (out-Selector s)

abbrev pub ActualForm : Type 0
ActualForm = TypedActual-F Selector TypedActual TypedExpr TypedElement

abbrev pub actual_form : ActualForm → ActualView
actual_form (TypedActual-F.Value e) = actual_step (TypedActual-F.Value (expr_view e))
actual_form (TypedActual-F.Variable el) = actual_step (TypedActual-F.Variable (element_view el))

by_actual : (o : ActualForm) → actual_view (roll-TypedActual o) ≡ actual_form o
by_actual (TypedActual-F.Value e) = fold-roll-TypedActual SelectorView ActualView ExprView ElementView selector_step actual_step expr_step element_step (TypedActual-F.Value e)
by_actual (TypedActual-F.Variable el) = fold-roll-TypedActual SelectorView ActualView ExprView ElementView selector_step actual_step expr_step element_step (TypedActual-F.Variable el)

pub actual_opened : (x : TypedActual) → actual_view x ≡ actual_form (out-TypedActual x)
actual_opened x = ap actual_view (sym (roll-out-TypedActual x)) ∙ by_actual (out-TypedActual x)

-- ---- elements

abbrev pub layer : TypedElement → TypedElement-F SelectorView ActualView ExprView ElementView
layer el = record { known = (out-TypedElement el).known; name = (out-TypedElement el).name; referent = (out-TypedElement el).referent; selectors = selector_views (out-TypedElement el).selectors }

pub element_opened : (el : TypedElement) → element_view el ≡ element_step (layer el)
element_opened el =
    ap element_view (sym (roll-out-TypedElement el)) ∙ fold-roll-TypedElement SelectorView ActualView ExprView ElementView selector_step actual_step expr_step element_step (out-TypedElement el)
    ∙ ap (λ (ys : List SelectorView). element_step (record { known = (out-TypedElement el).known; name = (out-TypedElement el).name; referent = (out-TypedElement el).referent; selectors = ys })) (all_selectors (out-TypedElement el).selectors)
