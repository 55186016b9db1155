-- What each form of the typed tree names, from what its parts name.
use Rattle.std.proofs.Common.{◌≡◌, ◌∙◌, ◌||◌, ◌==◌, ℕ, Bool, false, Option, List, [], ◌∷◌, map, refl, ap, sym}
use Rattle.occ_scope.specs.declared.meaning.Referent.{Referent}
use Rattle.occ_typing_operands.specs.declared.kind.Known.{Known}
use Rattle.occ_types.specs.declared.constant.Monadic.{Monadic}
use Rattle.occ_types.specs.declared.constant.Operator.{Operator}
use Rattle.occ_typing_rules.specs.declared.expr.Selector.{Selector}
use Rattle.occ_typing_rules.specs.declared.expr.Selector.TheFolds.{fold-roll-Selector, fold-roll-TypedActual, fold-roll-TypedElement, fold-roll-TypedExpr}
use Rattle.occ_typing_rules.specs.declared.expr.Selector.TheOpen.{Selector-F, TypedActual-F, TypedExpr-F}
use Rattle.occ_typing_rules.specs.declared.expr.Selector.TheVariants as sv
use Rattle.occ_typing_rules.specs.declared.expr.TypedActual.{TypedActual}
use Rattle.occ_typing_rules.specs.declared.expr.TypedActual.TheVariants as av
use Rattle.occ_typing_rules.specs.declared.expr.TypedElement.{TypedElement, out-TypedElement}
use Rattle.occ_typing_rules.specs.declared.expr.Selector.TheViews.{roll-out-TypedElement}
use Rattle.occ_typing_rules.specs.declared.expr.TypedExpr.{TypedExpr}
use Rattle.occ_typing_rules.specs.declared.expr.TypedExpr.TheVariants as tv
use Rattle.occ_usage_values.specs.Naming.{Naming, actual_depends, actual_names, actual_naming, actual_step, actuals_depend, actuals_name, either, element_depends, element_names, element_naming, element_step, expr_depends, expr_names, expr_naming, expr_step, exprs_depend, exprs_name, nothing, selector_names, selector_step, selectors_name, some}

some_exprs : (n : ℕ) (xs : List TypedExpr) → either (map (expr_naming n) xs) ≡ record { names = exprs_name n xs; depends = exprs_depend n xs }
some_exprs n [] = refl
some_exprs n (x ∷ xs) = ap (λ (r : Naming). record { names = expr_names n x || r.names; depends = expr_depends n x || r.depends }) (some_exprs n xs)

some_selectors : (n : ℕ) (xs : List Selector) → some (map (selector_names n) xs) ≡ selectors_name n xs
some_selectors n [] = refl
some_selectors n (x ∷ xs) = ap (λ (b : Bool). selector_names n x || b) (some_selectors n xs)

some_actuals : (n : ℕ) (xs : List TypedActual) → either (map (actual_naming n) xs) ≡ record { names = actuals_name n xs; depends = actuals_depend n xs }
some_actuals n [] = refl
some_actuals n (x ∷ xs) = ap (λ (r : Naming). record { names = actual_names n x || r.names; depends = actual_depends n x || r.depends }) (some_actuals n xs)

-- ---- both, form by form

expr_literal_is : (n : ℕ) (x : Known) → expr_naming n (tv.Literal x) ≡ nothing
expr_literal_is n x = ap (expr_naming n) (sym (tv.rolls-Literal x)) ∙ fold-roll-TypedExpr Bool Naming Naming Naming selector_step actual_step expr_step (element_step n) (TypedExpr-F.Literal x)

expr_element_is : (n : ℕ) (el : TypedElement) → expr_naming n (tv.Element el) ≡ element_naming n el
expr_element_is n el = ap (expr_naming n) (sym (tv.rolls-Element el)) ∙ fold-roll-TypedExpr Bool Naming Naming Naming selector_step actual_step expr_step (element_step n) (TypedExpr-F.Element el)

expr_operation_is : (n : ℕ) (x : Known) (op : Operator) (es : List TypedExpr) → expr_naming n (tv.Operation x op es) ≡ record { names = exprs_name n es; depends = exprs_depend n es }
expr_operation_is n x op es = ap (expr_naming n) (sym (tv.rolls-Operation x op es)) ∙ fold-roll-TypedExpr Bool Naming Naming Naming selector_step actual_step expr_step (element_step n) (TypedExpr-F.Operation x op es) ∙ some_exprs n es

expr_applied_is : (n : ℕ) (x : Known) (op : Monadic) (e : TypedExpr) → expr_naming n (tv.Applied x op e) ≡ expr_naming n e
expr_applied_is n x op e = ap (expr_naming n) (sym (tv.rolls-Applied x op e)) ∙ fold-roll-TypedExpr Bool Naming Naming Naming selector_step actual_step expr_step (element_step n) (TypedExpr-F.Applied x op e)

expr_size_is : (n : ℕ) (x : Known) (e : TypedExpr) → expr_naming n (tv.Size x e) ≡ record { names = expr_names n e; depends = false }
expr_size_is n x e = ap (expr_naming n) (sym (tv.rolls-Size x e)) ∙ fold-roll-TypedExpr Bool Naming Naming Naming selector_step actual_step expr_step (element_step n) (TypedExpr-F.Size x e)

expr_converted_is : (n : ℕ) (x : Known) (e : TypedExpr) → expr_naming n (tv.Converted x e) ≡ expr_naming n e
expr_converted_is n x e = ap (expr_naming n) (sym (tv.rolls-Converted x e)) ∙ fold-roll-TypedExpr Bool Naming Naming Naming selector_step actual_step expr_step (element_step n) (TypedExpr-F.Converted x e)

expr_table_is : (n : ℕ) (x : Known) (es : List TypedExpr) → expr_naming n (tv.Table x es) ≡ record { names = exprs_name n es; depends = exprs_depend n es }
expr_table_is n x es = ap (expr_naming n) (sym (tv.rolls-Table x es)) ∙ fold-roll-TypedExpr Bool Naming Naming Naming selector_step actual_step expr_step (element_step n) (TypedExpr-F.Table x es) ∙ some_exprs n es

expr_call_is : (n : ℕ) (x : Known) (callee : Referent) (xs : List TypedActual) → expr_naming n (tv.Call x callee xs) ≡ record { names = actuals_name n xs; depends = actuals_depend n xs }
expr_call_is n x callee xs = ap (expr_naming n) (sym (tv.rolls-Call x callee xs)) ∙ fold-roll-TypedExpr Bool Naming Naming Naming selector_step actual_step expr_step (element_step n) (TypedExpr-F.Call x callee xs) ∙ some_actuals n xs

actual_value_is : (n : ℕ) (e : TypedExpr) → actual_naming n (av.Value e) ≡ expr_naming n e
actual_value_is n e = ap (actual_naming n) (sym (av.rolls-Value e)) ∙ fold-roll-TypedActual Bool Naming Naming Naming selector_step actual_step expr_step (element_step n) (TypedActual-F.Value e)

actual_variable_is : (n : ℕ) (el : TypedElement) → actual_naming n (av.Variable el) ≡ element_naming n el
actual_variable_is n el = ap (actual_naming n) (sym (av.rolls-Variable el)) ∙ fold-roll-TypedActual Bool Naming Naming Naming selector_step actual_step expr_step (element_step n) (TypedActual-F.Variable el)

-- ---- what is named

pub expr_literal : (n : ℕ) (x : Known) → expr_names n (tv.Literal x) ≡ false
expr_literal n x = ap (λ (r : Naming). r.names) (expr_literal_is n x)

pub expr_element : (n : ℕ) (el : TypedElement) → expr_names n (tv.Element el) ≡ element_names n el
expr_element n el = ap (λ (r : Naming). r.names) (expr_element_is n el)

pub expr_operation : (n : ℕ) (x : Known) (op : Operator) (es : List TypedExpr) → expr_names n (tv.Operation x op es) ≡ exprs_name n es
expr_operation n x op es = ap (λ (r : Naming). r.names) (expr_operation_is n x op es)

pub expr_applied : (n : ℕ) (x : Known) (op : Monadic) (e : TypedExpr) → expr_names n (tv.Applied x op e) ≡ expr_names n e
expr_applied n x op e = ap (λ (r : Naming). r.names) (expr_applied_is n x op e)

pub expr_size : (n : ℕ) (x : Known) (e : TypedExpr) → expr_names n (tv.Size x e) ≡ expr_names n e
expr_size n x e = ap (λ (r : Naming). r.names) (expr_size_is n x e)

pub expr_converted : (n : ℕ) (x : Known) (e : TypedExpr) → expr_names n (tv.Converted x e) ≡ expr_names n e
expr_converted n x e = ap (λ (r : Naming). r.names) (expr_converted_is n x e)

pub expr_table : (n : ℕ) (x : Known) (es : List TypedExpr) → expr_names n (tv.Table x es) ≡ exprs_name n es
expr_table n x es = ap (λ (r : Naming). r.names) (expr_table_is n x es)

pub expr_call : (n : ℕ) (x : Known) (callee : Referent) (xs : List TypedActual) → expr_names n (tv.Call x callee xs) ≡ actuals_name n xs
expr_call n x callee xs = ap (λ (r : Naming). r.names) (expr_call_is n x callee xs)

pub actual_value : (n : ℕ) (e : TypedExpr) → actual_names n (av.Value e) ≡ expr_names n e
actual_value n e = ap (λ (r : Naming). r.names) (actual_value_is n e)

pub actual_variable : (n : ℕ) (el : TypedElement) → actual_names n (av.Variable el) ≡ element_names n el
actual_variable n el = ap (λ (r : Naming). r.names) (actual_variable_is n el)

pub selector_field : (n : ℕ) (k : ℕ) (name : List ℕ) → selector_names n (sv.Field k name) ≡ false
selector_field n k name = ap (selector_names n) (sym (sv.rolls-Field k name)) ∙ fold-roll-Selector Bool Naming Naming Naming selector_step actual_step expr_step (element_step n) (Selector-F.Field k name)

pub selector_component : (n : ℕ) (e : TypedExpr) → selector_names n (sv.Component e) ≡ expr_names n e
selector_component n e = ap (selector_names n) (sym (sv.rolls-Component e)) ∙ fold-roll-Selector Bool Naming Naming Naming selector_step actual_step expr_step (element_step n) (Selector-F.Component e)

pub selector_from : (n : ℕ) (m : Option ℕ) (e : TypedExpr) → selector_names n (sv.From m e) ≡ expr_names n e
selector_from n m e = ap (selector_names n) (sym (sv.rolls-From m e)) ∙ fold-roll-Selector Bool Naming Naming Naming selector_step actual_step expr_step (element_step n) (Selector-F.From m e)

pub selector_for : (n : ℕ) (m : Option ℕ) (e : TypedExpr) → selector_names n (sv.For m e) ≡ expr_names n e
selector_for n m e = ap (selector_names n) (sym (sv.rolls-For m e)) ∙ fold-roll-Selector Bool Naming Naming Naming selector_step actual_step expr_step (element_step n) (Selector-F.For m e)

pub selector_from_for : (n : ℕ) (m : Option ℕ) (e : TypedExpr) (f : TypedExpr) → selector_names n (sv.FromFor m e f) ≡ (expr_names n e || expr_names n f)
selector_from_for n m e f = ap (selector_names n) (sym (sv.rolls-FromFor m e f)) ∙ fold-roll-Selector Bool Naming Naming Naming selector_step actual_step expr_step (element_step n) (Selector-F.FromFor m e f)

element_is : (n : ℕ) (el : TypedElement) → element_naming n el ≡ record { names = (out-TypedElement el).referent.spec == n || selectors_name n (out-TypedElement el).selectors; depends = selectors_name n (out-TypedElement el).selectors }
element_is n el =
    ap (element_naming n) (sym (roll-out-TypedElement el)) ∙ fold-roll-TypedElement Bool Naming Naming Naming selector_step actual_step expr_step (element_step n) (out-TypedElement el)
    ∙ ap (λ (b : Bool). record { names = (out-TypedElement el).referent.spec == n || b; depends = b }) (some_selectors n (out-TypedElement el).selectors)

pub element_of : (n : ℕ) (el : TypedElement) → element_names n el ≡ ((out-TypedElement el).referent.spec == n || selectors_name n (out-TypedElement el).selectors)
element_of n el = ap (λ (r : Naming). r.names) (element_is n el)

-- ---- what depends on it

pub expr_literal_depends : (n : ℕ) (x : Known) → expr_depends n (tv.Literal x) ≡ false
expr_literal_depends n x = ap (λ (r : Naming). r.depends) (expr_literal_is n x)

pub expr_element_depends : (n : ℕ) (el : TypedElement) → expr_depends n (tv.Element el) ≡ element_depends n el
expr_element_depends n el = ap (λ (r : Naming). r.depends) (expr_element_is n el)

pub expr_operation_depends : (n : ℕ) (x : Known) (op : Operator) (es : List TypedExpr) → expr_depends n (tv.Operation x op es) ≡ exprs_depend n es
expr_operation_depends n x op es = ap (λ (r : Naming). r.depends) (expr_operation_is n x op es)

pub expr_applied_depends : (n : ℕ) (x : Known) (op : Monadic) (e : TypedExpr) → expr_depends n (tv.Applied x op e) ≡ expr_depends n e
expr_applied_depends n x op e = ap (λ (r : Naming). r.depends) (expr_applied_is n x op e)

pub expr_size_depends : (n : ℕ) (x : Known) (e : TypedExpr) → expr_depends n (tv.Size x e) ≡ false
expr_size_depends n x e = ap (λ (r : Naming). r.depends) (expr_size_is n x e)

pub expr_converted_depends : (n : ℕ) (x : Known) (e : TypedExpr) → expr_depends n (tv.Converted x e) ≡ expr_depends n e
expr_converted_depends n x e = ap (λ (r : Naming). r.depends) (expr_converted_is n x e)

pub expr_table_depends : (n : ℕ) (x : Known) (es : List TypedExpr) → expr_depends n (tv.Table x es) ≡ exprs_depend n es
expr_table_depends n x es = ap (λ (r : Naming). r.depends) (expr_table_is n x es)

pub expr_call_depends : (n : ℕ) (x : Known) (callee : Referent) (xs : List TypedActual) → expr_depends n (tv.Call x callee xs) ≡ actuals_depend n xs
expr_call_depends n x callee xs = ap (λ (r : Naming). r.depends) (expr_call_is n x callee xs)

pub actual_value_depends : (n : ℕ) (e : TypedExpr) → actual_depends n (av.Value e) ≡ expr_depends n e
actual_value_depends n e = ap (λ (r : Naming). r.depends) (actual_value_is n e)

pub actual_variable_depends : (n : ℕ) (el : TypedElement) → actual_depends n (av.Variable el) ≡ element_depends n el
actual_variable_depends n el = ap (λ (r : Naming). r.depends) (actual_variable_is n el)

pub element_of_depends : (n : ℕ) (el : TypedElement) → element_depends n el ≡ selectors_name n (out-TypedElement el).selectors
element_of_depends n el = ap (λ (r : Naming). r.depends) (element_is n el)

pub ruleset expr_rules = (expr_literal, expr_element, expr_operation, expr_applied, expr_size, expr_converted, expr_table, expr_call)

pub ruleset actual_rules = (actual_value, actual_variable)

pub ruleset selector_rules = (selector_field, selector_component, selector_from, selector_for, selector_from_for)

pub ruleset element_rules = (element_of)

pub ruleset depending_rules = (expr_literal_depends, expr_element_depends, expr_operation_depends, expr_applied_depends, expr_size_depends, expr_converted_depends, expr_table_depends, expr_call_depends)

pub ruleset depending_actual_rules = (actual_value_depends, actual_variable_depends)
