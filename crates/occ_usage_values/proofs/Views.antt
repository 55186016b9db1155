-- What each form of the typed tree is where specifications are in scope, from what its parts are.
use Rattle.std.proofs.Common.{◌≡◌, ◌∙◌, ℕ, ℤ, Option, List, [], ◌∷◌, map, refl, ap, sym}
use Rattle.occ_scope.specs.declared.meaning.Referent.{Referent}
use Rattle.occ_typing_operands.specs.declared.kind.Known.{Known}
use Rattle.occ_usage_parts.specs.declared.place.SelectedPart.{SelectedPart}
use Rattle.occ_project.specs.declared.expanded.Location.{Location}
use Rattle.occ_types.specs.declared.constant.Monadic.{Monadic}
use Rattle.occ_types.specs.declared.constant.Operator.{Operator}
use Rattle.occ_typing_rules.specs.declared.expr.Selector.{Selector}
use Rattle.occ_typing_rules.specs.declared.expr.Selector.TheFolds.{fold-roll-Selector, fold-roll-TypedActual, fold-roll-TypedElement, fold-roll-TypedExpr}
use Rattle.occ_typing_rules.specs.declared.expr.Selector.TheOpen.{Selector-F, TypedActual-F, TypedElement-F, TypedExpr-F}
use Rattle.occ_typing_rules.specs.declared.expr.Selector.TheVariants as sv
use Rattle.occ_typing_rules.specs.declared.expr.TypedActual.{TypedActual}
use Rattle.occ_typing_rules.specs.declared.expr.TypedActual.TheVariants as av
use Rattle.occ_typing_rules.specs.declared.expr.TypedElement.{TypedElement, out-TypedElement}
use Rattle.occ_typing_rules.specs.declared.expr.Selector.TheViews.{roll-out-TypedElement}
use Rattle.occ_typing_rules.specs.declared.expr.TypedExpr.{TypedExpr}
use Rattle.occ_typing_rules.specs.declared.expr.TypedExpr.TheVariants as tv
use Rattle.occ_usage_values.specs.Bounds.{Env}
use Rattle.occ_usage_values.specs.Views.{ActualView, ElementView, ExprView, SelectorView, actual_step, actual_view, actual_views, element_step, element_view, expr_step, expr_view, expr_views, selector_step, selector_view, selector_views}

all_expr_views : (xs : List TypedExpr) → map expr_view xs ≡ expr_views xs
all_expr_views [] = refl
all_expr_views (x ∷ xs) = ap (λ (ys : List ExprView). expr_view x ∷ ys) (all_expr_views xs)

all_selector_views : (xs : List Selector) → map selector_view xs ≡ selector_views xs
all_selector_views [] = refl
all_selector_views (x ∷ xs) = ap (λ (ys : List SelectorView). selector_view x ∷ ys) (all_selector_views xs)

all_actual_views : (xs : List TypedActual) → map actual_view xs ≡ actual_views xs
all_actual_views [] = refl
all_actual_views (x ∷ xs) = ap (λ (ys : List ActualView). actual_view x ∷ ys) (all_actual_views xs)

pub expr_literal : (x : Known) → expr_view (tv.Literal x) ≡ expr_step (TypedExpr-F.Literal x)
expr_literal x =
    ap expr_view (sym (tv.rolls-Literal x)) ∙ fold-roll-TypedExpr SelectorView ActualView ExprView ElementView selector_step actual_step expr_step element_step (TypedExpr-F.Literal x)

pub expr_element : (el : TypedElement) → expr_view (tv.Element el) ≡ expr_step (TypedExpr-F.Element (element_view el))
expr_element el =
    ap expr_view (sym (tv.rolls-Element el)) ∙ fold-roll-TypedExpr SelectorView ActualView ExprView ElementView selector_step actual_step expr_step element_step (TypedExpr-F.Element el)

pub expr_operation : (x : Known) (op : Operator) (es : List TypedExpr) → expr_view (tv.Operation x op es) ≡ expr_step (TypedExpr-F.Operation x op (expr_views es))
expr_operation x op es =
    ap expr_view (sym (tv.rolls-Operation x op es)) ∙ fold-roll-TypedExpr SelectorView ActualView ExprView ElementView selector_step actual_step expr_step element_step (TypedExpr-F.Operation x op es)
    ∙ ap (λ (ys : List ExprView). expr_step (TypedExpr-F.Operation x op ys)) (all_expr_views es)

pub expr_applied : (x : Known) (op : Monadic) (e : TypedExpr) → expr_view (tv.Applied x op e) ≡ expr_step (TypedExpr-F.Applied x op (expr_view e))
expr_applied x op e =
    ap expr_view (sym (tv.rolls-Applied x op e)) ∙ fold-roll-TypedExpr SelectorView ActualView ExprView ElementView selector_step actual_step expr_step element_step (TypedExpr-F.Applied x op e)

pub expr_size : (x : Known) (e : TypedExpr) → expr_view (tv.Size x e) ≡ expr_step (TypedExpr-F.Size x (expr_view e))
expr_size x e =
    ap expr_view (sym (tv.rolls-Size x e)) ∙ fold-roll-TypedExpr SelectorView ActualView ExprView ElementView selector_step actual_step expr_step element_step (TypedExpr-F.Size x e)

pub expr_converted : (x : Known) (e : TypedExpr) → expr_view (tv.Converted x e) ≡ expr_step (TypedExpr-F.Converted x (expr_view e))
expr_converted x e =
    ap expr_view (sym (tv.rolls-Converted x e)) ∙ fold-roll-TypedExpr SelectorView ActualView ExprView ElementView selector_step actual_step expr_step element_step (TypedExpr-F.Converted x e)

pub expr_table : (x : Known) (es : List TypedExpr) → expr_view (tv.Table x es) ≡ expr_step (TypedExpr-F.Table x (expr_views es))
expr_table x es =
    ap expr_view (sym (tv.rolls-Table x es)) ∙ fold-roll-TypedExpr SelectorView ActualView ExprView ElementView selector_step actual_step expr_step element_step (TypedExpr-F.Table x es)
    ∙ ap (λ (ys : List ExprView). expr_step (TypedExpr-F.Table x ys)) (all_expr_views es)

pub expr_call : (x : Known) (callee : Referent) (xs : List TypedActual) → expr_view (tv.Call x callee xs) ≡ expr_step (TypedExpr-F.Call x callee (actual_views xs))
expr_call x callee xs =
    ap expr_view (sym (tv.rolls-Call x callee xs)) ∙ fold-roll-TypedExpr SelectorView ActualView ExprView ElementView selector_step actual_step expr_step element_step (TypedExpr-F.Call x callee xs)
    ∙ ap (λ (ys : List ActualView). expr_step (TypedExpr-F.Call x callee ys)) (all_actual_views xs)

pub actual_value : (e : TypedExpr) → actual_view (av.Value e) ≡ actual_step (TypedActual-F.Value (expr_view e))
actual_value e =
    ap actual_view (sym (av.rolls-Value e)) ∙ fold-roll-TypedActual SelectorView ActualView ExprView ElementView selector_step actual_step expr_step element_step (TypedActual-F.Value e)

pub actual_variable : (el : TypedElement) → actual_view (av.Variable el) ≡ actual_step (TypedActual-F.Variable (element_view el))
actual_variable el =
    ap actual_view (sym (av.rolls-Variable el)) ∙ fold-roll-TypedActual SelectorView ActualView ExprView ElementView selector_step actual_step expr_step element_step (TypedActual-F.Variable el)

pub selector_field : (k : ℕ) (name : List ℕ) → selector_view (sv.Field k name) ≡ selector_step (Selector-F.Field k name)
selector_field k name =
    ap selector_view (sym (sv.rolls-Field k name)) ∙ fold-roll-Selector SelectorView ActualView ExprView ElementView selector_step actual_step expr_step element_step (Selector-F.Field k name)

pub selector_component : (e : TypedExpr) → selector_view (sv.Component e) ≡ selector_step (Selector-F.Component (expr_view e))
selector_component e =
    ap selector_view (sym (sv.rolls-Component e)) ∙ fold-roll-Selector SelectorView ActualView ExprView ElementView selector_step actual_step expr_step element_step (Selector-F.Component e)

pub selector_from : (n : Option ℕ) (e : TypedExpr) → selector_view (sv.From n e) ≡ selector_step (Selector-F.From n (expr_view e))
selector_from n e =
    ap selector_view (sym (sv.rolls-From n e)) ∙ fold-roll-Selector SelectorView ActualView ExprView ElementView selector_step actual_step expr_step element_step (Selector-F.From n e)

pub selector_for : (n : Option ℕ) (e : TypedExpr) → selector_view (sv.For n e) ≡ selector_step (Selector-F.For n (expr_view e))
selector_for n e =
    ap selector_view (sym (sv.rolls-For n e)) ∙ fold-roll-Selector SelectorView ActualView ExprView ElementView selector_step actual_step expr_step element_step (Selector-F.For n e)

pub selector_from_for : (n : Option ℕ) (e : TypedExpr) (f : TypedExpr) → selector_view (sv.FromFor n e f) ≡ selector_step (Selector-F.FromFor n (expr_view e) (expr_view f))
selector_from_for n e f =
    ap selector_view (sym (sv.rolls-FromFor n e f)) ∙ fold-roll-Selector SelectorView ActualView ExprView ElementView selector_step actual_step expr_step element_step (Selector-F.FromFor n e f)

-- the element, with what its selectors are
abbrev pub element_layer : TypedElement → TypedElement-F SelectorView ActualView ExprView ElementView
element_layer el = record { known = (out-TypedElement el).known; name = (out-TypedElement el).name; referent = (out-TypedElement el).referent; selectors = selector_views (out-TypedElement el).selectors }

pub element_view_of : (el : TypedElement) → element_view el ≡ element_step (element_layer el)
element_view_of el =
    ap element_view (sym (roll-out-TypedElement el)) ∙ fold-roll-TypedElement SelectorView ActualView ExprView ElementView selector_step actual_step expr_step element_step (out-TypedElement el)
    ∙ ap (λ (ys : List SelectorView). element_step (record { known = (out-TypedElement el).known; name = (out-TypedElement el).name; referent = (out-TypedElement el).referent; selectors = ys })) (all_selector_views (out-TypedElement el).selectors)

pub expr_literal_value : (x : Known) (env : Env) → (expr_view (tv.Literal x)).value env ≡ (expr_step (TypedExpr-F.Literal x)).value env
expr_literal_value x env = ap (λ (v : ExprView). v.value env) (expr_literal x)

pub expr_literal_size : (x : Known) (env : Env) → (expr_view (tv.Literal x)).size env ≡ (expr_step (TypedExpr-F.Literal x)).size env
expr_literal_size x env = ap (λ (v : ExprView). v.size env) (expr_literal x)

pub expr_literal_uses : (x : Known) (env : Env) (line : Location) → (expr_view (tv.Literal x)).uses env line ≡ (expr_step (TypedExpr-F.Literal x)).uses env line
expr_literal_uses x env line = ap (λ (v : ExprView). v.uses env line) (expr_literal x)

pub expr_literal_calls : (x : Known) (env : Env) (line : Location) → (expr_view (tv.Literal x)).calls env line ≡ (expr_step (TypedExpr-F.Literal x)).calls env line
expr_literal_calls x env line = ap (λ (v : ExprView). v.calls env line) (expr_literal x)

pub expr_literal_effect : (x : Known) (env : Env) → (expr_view (tv.Literal x)).effect env ≡ (expr_step (TypedExpr-F.Literal x)).effect env
expr_literal_effect x env = ap (λ (v : ExprView). v.effect env) (expr_literal x)

pub expr_element_value : (el : TypedElement) (env : Env) → (expr_view (tv.Element el)).value env ≡ (expr_step (TypedExpr-F.Element (element_view el))).value env
expr_element_value el env = ap (λ (v : ExprView). v.value env) (expr_element el)

pub expr_element_size : (el : TypedElement) (env : Env) → (expr_view (tv.Element el)).size env ≡ (expr_step (TypedExpr-F.Element (element_view el))).size env
expr_element_size el env = ap (λ (v : ExprView). v.size env) (expr_element el)

pub expr_element_uses : (el : TypedElement) (env : Env) (line : Location) → (expr_view (tv.Element el)).uses env line ≡ (expr_step (TypedExpr-F.Element (element_view el))).uses env line
expr_element_uses el env line = ap (λ (v : ExprView). v.uses env line) (expr_element el)

pub expr_element_calls : (el : TypedElement) (env : Env) (line : Location) → (expr_view (tv.Element el)).calls env line ≡ (expr_step (TypedExpr-F.Element (element_view el))).calls env line
expr_element_calls el env line = ap (λ (v : ExprView). v.calls env line) (expr_element el)

pub expr_element_effect : (el : TypedElement) (env : Env) → (expr_view (tv.Element el)).effect env ≡ (expr_step (TypedExpr-F.Element (element_view el))).effect env
expr_element_effect el env = ap (λ (v : ExprView). v.effect env) (expr_element el)

-- the same of an element whose parts are told
pub expr_element_value_of : (k : Known) (n : List ℕ) (r : Referent) (xs : List Selector) (env : Env) → (expr_view (tv.Element (record { known = k; name = n; referent = r; selectors = xs }))).value env ≡ (expr_step (TypedExpr-F.Element (element_view (record { known = k; name = n; referent = r; selectors = xs })))).value env
expr_element_value_of k n r xs env = expr_element_value (record { known = k; name = n; referent = r; selectors = xs }) env

pub expr_operation_value : (x : Known) (op : Operator) (es : List TypedExpr) (env : Env) → (expr_view (tv.Operation x op es)).value env ≡ (expr_step (TypedExpr-F.Operation x op (expr_views es))).value env
expr_operation_value x op es env = ap (λ (v : ExprView). v.value env) (expr_operation x op es)

-- the same of an element whose parts are told
pub expr_element_size_of : (k : Known) (n : List ℕ) (r : Referent) (xs : List Selector) (env : Env) → (expr_view (tv.Element (record { known = k; name = n; referent = r; selectors = xs }))).size env ≡ (expr_step (TypedExpr-F.Element (element_view (record { known = k; name = n; referent = r; selectors = xs })))).size env
expr_element_size_of k n r xs env = expr_element_size (record { known = k; name = n; referent = r; selectors = xs }) env

pub expr_operation_size : (x : Known) (op : Operator) (es : List TypedExpr) (env : Env) → (expr_view (tv.Operation x op es)).size env ≡ (expr_step (TypedExpr-F.Operation x op (expr_views es))).size env
expr_operation_size x op es env = ap (λ (v : ExprView). v.size env) (expr_operation x op es)

-- the same of an element whose parts are told
pub expr_element_uses_of : (k : Known) (n : List ℕ) (r : Referent) (xs : List Selector) (env : Env) (line : Location) → (expr_view (tv.Element (record { known = k; name = n; referent = r; selectors = xs }))).uses env line ≡ (expr_step (TypedExpr-F.Element (element_view (record { known = k; name = n; referent = r; selectors = xs })))).uses env line
expr_element_uses_of k n r xs env line = expr_element_uses (record { known = k; name = n; referent = r; selectors = xs }) env line

pub expr_operation_uses : (x : Known) (op : Operator) (es : List TypedExpr) (env : Env) (line : Location) → (expr_view (tv.Operation x op es)).uses env line ≡ (expr_step (TypedExpr-F.Operation x op (expr_views es))).uses env line
expr_operation_uses x op es env line = ap (λ (v : ExprView). v.uses env line) (expr_operation x op es)

pub expr_operation_calls : (x : Known) (op : Operator) (es : List TypedExpr) (env : Env) (line : Location) → (expr_view (tv.Operation x op es)).calls env line ≡ (expr_step (TypedExpr-F.Operation x op (expr_views es))).calls env line
expr_operation_calls x op es env line = ap (λ (v : ExprView). v.calls env line) (expr_operation x op es)

pub expr_operation_effect : (x : Known) (op : Operator) (es : List TypedExpr) (env : Env) → (expr_view (tv.Operation x op es)).effect env ≡ (expr_step (TypedExpr-F.Operation x op (expr_views es))).effect env
expr_operation_effect x op es env = ap (λ (v : ExprView). v.effect env) (expr_operation x op es)

pub expr_applied_value : (x : Known) (op : Monadic) (e : TypedExpr) (env : Env) → (expr_view (tv.Applied x op e)).value env ≡ (expr_step (TypedExpr-F.Applied x op (expr_view e))).value env
expr_applied_value x op e env = ap (λ (v : ExprView). v.value env) (expr_applied x op e)

pub expr_applied_size : (x : Known) (op : Monadic) (e : TypedExpr) (env : Env) → (expr_view (tv.Applied x op e)).size env ≡ (expr_step (TypedExpr-F.Applied x op (expr_view e))).size env
expr_applied_size x op e env = ap (λ (v : ExprView). v.size env) (expr_applied x op e)

pub expr_applied_uses : (x : Known) (op : Monadic) (e : TypedExpr) (env : Env) (line : Location) → (expr_view (tv.Applied x op e)).uses env line ≡ (expr_step (TypedExpr-F.Applied x op (expr_view e))).uses env line
expr_applied_uses x op e env line = ap (λ (v : ExprView). v.uses env line) (expr_applied x op e)

pub expr_applied_calls : (x : Known) (op : Monadic) (e : TypedExpr) (env : Env) (line : Location) → (expr_view (tv.Applied x op e)).calls env line ≡ (expr_step (TypedExpr-F.Applied x op (expr_view e))).calls env line
expr_applied_calls x op e env line = ap (λ (v : ExprView). v.calls env line) (expr_applied x op e)

pub expr_applied_effect : (x : Known) (op : Monadic) (e : TypedExpr) (env : Env) → (expr_view (tv.Applied x op e)).effect env ≡ (expr_step (TypedExpr-F.Applied x op (expr_view e))).effect env
expr_applied_effect x op e env = ap (λ (v : ExprView). v.effect env) (expr_applied x op e)

pub expr_size_value : (x : Known) (e : TypedExpr) (env : Env) → (expr_view (tv.Size x e)).value env ≡ (expr_step (TypedExpr-F.Size x (expr_view e))).value env
expr_size_value x e env = ap (λ (v : ExprView). v.value env) (expr_size x e)

pub expr_size_size : (x : Known) (e : TypedExpr) (env : Env) → (expr_view (tv.Size x e)).size env ≡ (expr_step (TypedExpr-F.Size x (expr_view e))).size env
expr_size_size x e env = ap (λ (v : ExprView). v.size env) (expr_size x e)

pub expr_size_uses : (x : Known) (e : TypedExpr) (env : Env) (line : Location) → (expr_view (tv.Size x e)).uses env line ≡ (expr_step (TypedExpr-F.Size x (expr_view e))).uses env line
expr_size_uses x e env line = ap (λ (v : ExprView). v.uses env line) (expr_size x e)

pub expr_size_calls : (x : Known) (e : TypedExpr) (env : Env) (line : Location) → (expr_view (tv.Size x e)).calls env line ≡ (expr_step (TypedExpr-F.Size x (expr_view e))).calls env line
expr_size_calls x e env line = ap (λ (v : ExprView). v.calls env line) (expr_size x e)

pub expr_size_effect : (x : Known) (e : TypedExpr) (env : Env) → (expr_view (tv.Size x e)).effect env ≡ (expr_step (TypedExpr-F.Size x (expr_view e))).effect env
expr_size_effect x e env = ap (λ (v : ExprView). v.effect env) (expr_size x e)

pub expr_converted_value : (x : Known) (e : TypedExpr) (env : Env) → (expr_view (tv.Converted x e)).value env ≡ (expr_step (TypedExpr-F.Converted x (expr_view e))).value env
expr_converted_value x e env = ap (λ (v : ExprView). v.value env) (expr_converted x e)

pub expr_converted_size : (x : Known) (e : TypedExpr) (env : Env) → (expr_view (tv.Converted x e)).size env ≡ (expr_step (TypedExpr-F.Converted x (expr_view e))).size env
expr_converted_size x e env = ap (λ (v : ExprView). v.size env) (expr_converted x e)

pub expr_converted_uses : (x : Known) (e : TypedExpr) (env : Env) (line : Location) → (expr_view (tv.Converted x e)).uses env line ≡ (expr_step (TypedExpr-F.Converted x (expr_view e))).uses env line
expr_converted_uses x e env line = ap (λ (v : ExprView). v.uses env line) (expr_converted x e)

pub expr_converted_calls : (x : Known) (e : TypedExpr) (env : Env) (line : Location) → (expr_view (tv.Converted x e)).calls env line ≡ (expr_step (TypedExpr-F.Converted x (expr_view e))).calls env line
expr_converted_calls x e env line = ap (λ (v : ExprView). v.calls env line) (expr_converted x e)

pub expr_converted_effect : (x : Known) (e : TypedExpr) (env : Env) → (expr_view (tv.Converted x e)).effect env ≡ (expr_step (TypedExpr-F.Converted x (expr_view e))).effect env
expr_converted_effect x e env = ap (λ (v : ExprView). v.effect env) (expr_converted x e)

pub expr_table_value : (x : Known) (es : List TypedExpr) (env : Env) → (expr_view (tv.Table x es)).value env ≡ (expr_step (TypedExpr-F.Table x (expr_views es))).value env
expr_table_value x es env = ap (λ (v : ExprView). v.value env) (expr_table x es)

pub expr_table_size : (x : Known) (es : List TypedExpr) (env : Env) → (expr_view (tv.Table x es)).size env ≡ (expr_step (TypedExpr-F.Table x (expr_views es))).size env
expr_table_size x es env = ap (λ (v : ExprView). v.size env) (expr_table x es)

pub expr_table_uses : (x : Known) (es : List TypedExpr) (env : Env) (line : Location) → (expr_view (tv.Table x es)).uses env line ≡ (expr_step (TypedExpr-F.Table x (expr_views es))).uses env line
expr_table_uses x es env line = ap (λ (v : ExprView). v.uses env line) (expr_table x es)

pub expr_table_calls : (x : Known) (es : List TypedExpr) (env : Env) (line : Location) → (expr_view (tv.Table x es)).calls env line ≡ (expr_step (TypedExpr-F.Table x (expr_views es))).calls env line
expr_table_calls x es env line = ap (λ (v : ExprView). v.calls env line) (expr_table x es)

pub expr_table_effect : (x : Known) (es : List TypedExpr) (env : Env) → (expr_view (tv.Table x es)).effect env ≡ (expr_step (TypedExpr-F.Table x (expr_views es))).effect env
expr_table_effect x es env = ap (λ (v : ExprView). v.effect env) (expr_table x es)

pub expr_call_value : (x : Known) (callee : Referent) (xs : List TypedActual) (env : Env) → (expr_view (tv.Call x callee xs)).value env ≡ (expr_step (TypedExpr-F.Call x callee (actual_views xs))).value env
expr_call_value x callee xs env = ap (λ (v : ExprView). v.value env) (expr_call x callee xs)

pub expr_call_size : (x : Known) (callee : Referent) (xs : List TypedActual) (env : Env) → (expr_view (tv.Call x callee xs)).size env ≡ (expr_step (TypedExpr-F.Call x callee (actual_views xs))).size env
expr_call_size x callee xs env = ap (λ (v : ExprView). v.size env) (expr_call x callee xs)

pub expr_call_uses : (x : Known) (callee : Referent) (xs : List TypedActual) (env : Env) (line : Location) → (expr_view (tv.Call x callee xs)).uses env line ≡ (expr_step (TypedExpr-F.Call x callee (actual_views xs))).uses env line
expr_call_uses x callee xs env line = ap (λ (v : ExprView). v.uses env line) (expr_call x callee xs)

pub expr_call_calls : (x : Known) (callee : Referent) (xs : List TypedActual) (env : Env) (line : Location) → (expr_view (tv.Call x callee xs)).calls env line ≡ (expr_step (TypedExpr-F.Call x callee (actual_views xs))).calls env line
expr_call_calls x callee xs env line = ap (λ (v : ExprView). v.calls env line) (expr_call x callee xs)

pub expr_call_effect : (x : Known) (callee : Referent) (xs : List TypedActual) (env : Env) → (expr_view (tv.Call x callee xs)).effect env ≡ (expr_step (TypedExpr-F.Call x callee (actual_views xs))).effect env
expr_call_effect x callee xs env = ap (λ (v : ExprView). v.effect env) (expr_call x callee xs)

pub actual_value_place : (e : TypedExpr) (env : Env) → (actual_view (av.Value e)).place env ≡ (actual_step (TypedActual-F.Value (expr_view e))).place env
actual_value_place e env = ap (λ (v : ActualView). v.place env) (actual_value e)

pub actual_value_uses : (e : TypedExpr) (env : Env) (line : Location) → (actual_view (av.Value e)).uses env line ≡ (actual_step (TypedActual-F.Value (expr_view e))).uses env line
actual_value_uses e env line = ap (λ (v : ActualView). v.uses env line) (actual_value e)

pub actual_value_calls : (e : TypedExpr) (env : Env) (line : Location) → (actual_view (av.Value e)).calls env line ≡ (actual_step (TypedActual-F.Value (expr_view e))).calls env line
actual_value_calls e env line = ap (λ (v : ActualView). v.calls env line) (actual_value e)

pub actual_value_effect : (e : TypedExpr) (env : Env) → (actual_view (av.Value e)).effect env ≡ (actual_step (TypedActual-F.Value (expr_view e))).effect env
actual_value_effect e env = ap (λ (v : ActualView). v.effect env) (actual_value e)

pub actual_variable_place : (el : TypedElement) (env : Env) → (actual_view (av.Variable el)).place env ≡ (actual_step (TypedActual-F.Variable (element_view el))).place env
actual_variable_place el env = ap (λ (v : ActualView). v.place env) (actual_variable el)

pub actual_variable_uses : (el : TypedElement) (env : Env) (line : Location) → (actual_view (av.Variable el)).uses env line ≡ (actual_step (TypedActual-F.Variable (element_view el))).uses env line
actual_variable_uses el env line = ap (λ (v : ActualView). v.uses env line) (actual_variable el)

pub actual_variable_calls : (el : TypedElement) (env : Env) (line : Location) → (actual_view (av.Variable el)).calls env line ≡ (actual_step (TypedActual-F.Variable (element_view el))).calls env line
actual_variable_calls el env line = ap (λ (v : ActualView). v.calls env line) (actual_variable el)

pub actual_variable_effect : (el : TypedElement) (env : Env) → (actual_view (av.Variable el)).effect env ≡ (actual_step (TypedActual-F.Variable (element_view el))).effect env
actual_variable_effect el env = ap (λ (v : ActualView). v.effect env) (actual_variable el)

pub selector_field_size : (k : ℕ) (name : List ℕ) (env : Env) (size : Option ℤ) → (selector_view (sv.Field k name)).size env size ≡ (selector_step (Selector-F.Field k name)).size env size
selector_field_size k name env size = ap (λ (v : SelectorView). v.size env size) (selector_field k name)

pub selector_field_place : (k : ℕ) (name : List ℕ) (env : Env) (size : Option ℤ) (p : SelectedPart) → (selector_view (sv.Field k name)).place env size p ≡ (selector_step (Selector-F.Field k name)).place env size p
selector_field_place k name env size p = ap (λ (v : SelectorView). v.place env size p) (selector_field k name)

pub selector_field_uses : (k : ℕ) (name : List ℕ) (env : Env) (line : Location) → (selector_view (sv.Field k name)).uses env line ≡ (selector_step (Selector-F.Field k name)).uses env line
selector_field_uses k name env line = ap (λ (v : SelectorView). v.uses env line) (selector_field k name)

pub selector_field_calls : (k : ℕ) (name : List ℕ) (env : Env) (line : Location) → (selector_view (sv.Field k name)).calls env line ≡ (selector_step (Selector-F.Field k name)).calls env line
selector_field_calls k name env line = ap (λ (v : SelectorView). v.calls env line) (selector_field k name)

pub selector_field_effect : (k : ℕ) (name : List ℕ) (env : Env) → (selector_view (sv.Field k name)).effect env ≡ (selector_step (Selector-F.Field k name)).effect env
selector_field_effect k name env = ap (λ (v : SelectorView). v.effect env) (selector_field k name)

pub selector_component_size : (e : TypedExpr) (env : Env) (size : Option ℤ) → (selector_view (sv.Component e)).size env size ≡ (selector_step (Selector-F.Component (expr_view e))).size env size
selector_component_size e env size = ap (λ (v : SelectorView). v.size env size) (selector_component e)

pub selector_component_place : (e : TypedExpr) (env : Env) (size : Option ℤ) (p : SelectedPart) → (selector_view (sv.Component e)).place env size p ≡ (selector_step (Selector-F.Component (expr_view e))).place env size p
selector_component_place e env size p = ap (λ (v : SelectorView). v.place env size p) (selector_component e)

pub selector_component_uses : (e : TypedExpr) (env : Env) (line : Location) → (selector_view (sv.Component e)).uses env line ≡ (selector_step (Selector-F.Component (expr_view e))).uses env line
selector_component_uses e env line = ap (λ (v : SelectorView). v.uses env line) (selector_component e)

pub selector_component_calls : (e : TypedExpr) (env : Env) (line : Location) → (selector_view (sv.Component e)).calls env line ≡ (selector_step (Selector-F.Component (expr_view e))).calls env line
selector_component_calls e env line = ap (λ (v : SelectorView). v.calls env line) (selector_component e)

pub selector_component_effect : (e : TypedExpr) (env : Env) → (selector_view (sv.Component e)).effect env ≡ (selector_step (Selector-F.Component (expr_view e))).effect env
selector_component_effect e env = ap (λ (v : SelectorView). v.effect env) (selector_component e)

pub selector_from_size : (n : Option ℕ) (e : TypedExpr) (env : Env) (size : Option ℤ) → (selector_view (sv.From n e)).size env size ≡ (selector_step (Selector-F.From n (expr_view e))).size env size
selector_from_size n e env size = ap (λ (v : SelectorView). v.size env size) (selector_from n e)

pub selector_from_place : (n : Option ℕ) (e : TypedExpr) (env : Env) (size : Option ℤ) (p : SelectedPart) → (selector_view (sv.From n e)).place env size p ≡ (selector_step (Selector-F.From n (expr_view e))).place env size p
selector_from_place n e env size p = ap (λ (v : SelectorView). v.place env size p) (selector_from n e)

pub selector_from_uses : (n : Option ℕ) (e : TypedExpr) (env : Env) (line : Location) → (selector_view (sv.From n e)).uses env line ≡ (selector_step (Selector-F.From n (expr_view e))).uses env line
selector_from_uses n e env line = ap (λ (v : SelectorView). v.uses env line) (selector_from n e)

pub selector_from_calls : (n : Option ℕ) (e : TypedExpr) (env : Env) (line : Location) → (selector_view (sv.From n e)).calls env line ≡ (selector_step (Selector-F.From n (expr_view e))).calls env line
selector_from_calls n e env line = ap (λ (v : SelectorView). v.calls env line) (selector_from n e)

pub selector_from_effect : (n : Option ℕ) (e : TypedExpr) (env : Env) → (selector_view (sv.From n e)).effect env ≡ (selector_step (Selector-F.From n (expr_view e))).effect env
selector_from_effect n e env = ap (λ (v : SelectorView). v.effect env) (selector_from n e)

pub selector_for_size : (n : Option ℕ) (e : TypedExpr) (env : Env) (size : Option ℤ) → (selector_view (sv.For n e)).size env size ≡ (selector_step (Selector-F.For n (expr_view e))).size env size
selector_for_size n e env size = ap (λ (v : SelectorView). v.size env size) (selector_for n e)

pub selector_for_place : (n : Option ℕ) (e : TypedExpr) (env : Env) (size : Option ℤ) (p : SelectedPart) → (selector_view (sv.For n e)).place env size p ≡ (selector_step (Selector-F.For n (expr_view e))).place env size p
selector_for_place n e env size p = ap (λ (v : SelectorView). v.place env size p) (selector_for n e)

pub selector_for_uses : (n : Option ℕ) (e : TypedExpr) (env : Env) (line : Location) → (selector_view (sv.For n e)).uses env line ≡ (selector_step (Selector-F.For n (expr_view e))).uses env line
selector_for_uses n e env line = ap (λ (v : SelectorView). v.uses env line) (selector_for n e)

pub selector_for_calls : (n : Option ℕ) (e : TypedExpr) (env : Env) (line : Location) → (selector_view (sv.For n e)).calls env line ≡ (selector_step (Selector-F.For n (expr_view e))).calls env line
selector_for_calls n e env line = ap (λ (v : SelectorView). v.calls env line) (selector_for n e)

pub selector_for_effect : (n : Option ℕ) (e : TypedExpr) (env : Env) → (selector_view (sv.For n e)).effect env ≡ (selector_step (Selector-F.For n (expr_view e))).effect env
selector_for_effect n e env = ap (λ (v : SelectorView). v.effect env) (selector_for n e)

pub selector_from_for_size : (n : Option ℕ) (e : TypedExpr) (f : TypedExpr) (env : Env) (size : Option ℤ) → (selector_view (sv.FromFor n e f)).size env size ≡ (selector_step (Selector-F.FromFor n (expr_view e) (expr_view f))).size env size
selector_from_for_size n e f env size = ap (λ (v : SelectorView). v.size env size) (selector_from_for n e f)

pub selector_from_for_place : (n : Option ℕ) (e : TypedExpr) (f : TypedExpr) (env : Env) (size : Option ℤ) (p : SelectedPart) → (selector_view (sv.FromFor n e f)).place env size p ≡ (selector_step (Selector-F.FromFor n (expr_view e) (expr_view f))).place env size p
selector_from_for_place n e f env size p = ap (λ (v : SelectorView). v.place env size p) (selector_from_for n e f)

pub selector_from_for_uses : (n : Option ℕ) (e : TypedExpr) (f : TypedExpr) (env : Env) (line : Location) → (selector_view (sv.FromFor n e f)).uses env line ≡ (selector_step (Selector-F.FromFor n (expr_view e) (expr_view f))).uses env line
selector_from_for_uses n e f env line = ap (λ (v : SelectorView). v.uses env line) (selector_from_for n e f)

pub selector_from_for_calls : (n : Option ℕ) (e : TypedExpr) (f : TypedExpr) (env : Env) (line : Location) → (selector_view (sv.FromFor n e f)).calls env line ≡ (selector_step (Selector-F.FromFor n (expr_view e) (expr_view f))).calls env line
selector_from_for_calls n e f env line = ap (λ (v : SelectorView). v.calls env line) (selector_from_for n e f)

pub selector_from_for_effect : (n : Option ℕ) (e : TypedExpr) (f : TypedExpr) (env : Env) → (selector_view (sv.FromFor n e f)).effect env ≡ (selector_step (Selector-F.FromFor n (expr_view e) (expr_view f))).effect env
selector_from_for_effect n e f env = ap (λ (v : SelectorView). v.effect env) (selector_from_for n e f)

pub element_value : (el : TypedElement) (env : Env) → (element_view el).value env ≡ (element_step (element_layer el)).value env
element_value el env = ap (λ (v : ElementView). v.value env) (element_view_of el)

pub element_size : (el : TypedElement) (env : Env) → (element_view el).size env ≡ (element_step (element_layer el)).size env
element_size el env = ap (λ (v : ElementView). v.size env) (element_view_of el)

pub element_place : (el : TypedElement) (env : Env) → (element_view el).place env ≡ (element_step (element_layer el)).place env
element_place el env = ap (λ (v : ElementView). v.place env) (element_view_of el)

pub element_uses : (el : TypedElement) (env : Env) (line : Location) → (element_view el).uses env line ≡ (element_step (element_layer el)).uses env line
element_uses el env line = ap (λ (v : ElementView). v.uses env line) (element_view_of el)

pub element_calls : (el : TypedElement) (env : Env) (line : Location) → (element_view el).calls env line ≡ (element_step (element_layer el)).calls env line
element_calls el env line = ap (λ (v : ElementView). v.calls env line) (element_view_of el)

pub element_effect : (el : TypedElement) (env : Env) → (element_view el).effect env ≡ (element_step (element_layer el)).effect env
element_effect el env = ap (λ (v : ElementView). v.effect env) (element_view_of el)

pub ruleset expr_value_rules = (expr_literal_value, expr_element_value, expr_element_value_of, expr_operation_value, expr_applied_value, expr_size_value, expr_converted_value, expr_table_value, expr_call_value)

pub ruleset expr_size_rules = (expr_literal_size, expr_element_size, expr_element_size_of, expr_operation_size, expr_applied_size, expr_size_size, expr_converted_size, expr_table_size, expr_call_size)

pub ruleset expr_uses_rules = (expr_literal_uses, expr_element_uses, expr_element_uses_of, expr_operation_uses, expr_applied_uses, expr_size_uses, expr_converted_uses, expr_table_uses, expr_call_uses)

pub ruleset expr_calls_rules = (expr_literal_calls, expr_element_calls, expr_operation_calls, expr_applied_calls, expr_size_calls, expr_converted_calls, expr_table_calls, expr_call_calls)

pub ruleset expr_effect_rules = (expr_literal_effect, expr_element_effect, expr_operation_effect, expr_applied_effect, expr_size_effect, expr_converted_effect, expr_table_effect, expr_call_effect)

pub ruleset actual_place_rules = (actual_value_place, actual_variable_place)

pub ruleset actual_uses_rules = (actual_value_uses, actual_variable_uses)

pub ruleset actual_calls_rules = (actual_value_calls, actual_variable_calls)

pub ruleset actual_effect_rules = (actual_value_effect, actual_variable_effect)

pub ruleset selector_size_rules = (selector_field_size, selector_component_size, selector_from_size, selector_for_size, selector_from_for_size)

pub ruleset selector_place_rules = (selector_field_place, selector_component_place, selector_from_place, selector_for_place, selector_from_for_place)

pub ruleset selector_uses_rules = (selector_field_uses, selector_component_uses, selector_from_uses, selector_for_uses, selector_from_for_uses)

pub ruleset selector_calls_rules = (selector_field_calls, selector_component_calls, selector_from_calls, selector_for_calls, selector_from_for_calls)

pub ruleset selector_effect_rules = (selector_field_effect, selector_component_effect, selector_from_effect, selector_for_effect, selector_from_for_effect)

pub ruleset element_value_rules = (element_value)

pub ruleset element_size_rules = (element_size)

pub ruleset element_place_rules = (element_place)

pub ruleset element_uses_rules = (element_uses)

pub ruleset element_calls_rules = (element_calls)

pub ruleset element_effect_rules = (element_effect)
