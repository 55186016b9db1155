-- What an expression, an element, a selector and an actual are where specifications are in scope: values, places, the uses of
-- what is evaluated, and the calls.
use Rattle.std.specs.Prelude.{ℕ, ℤ, pos, Bool, false, ◌||◌, Option, Some, None, List, [], ◌∷◌, ◌++◌, slice_get}
use Rattle.occ_usage_parts.specs.Selecting.{with_field, with_segment, with_subscript}
use Rattle.occ_usage_parts.specs.declared.place.SelectedPart.{SelectedPart}
use Rattle.occ_project.specs.declared.expanded.Location.{Location}
use Rattle.occ_types.specs.declared.constant.Operator.{Operator}
use Rattle.occ_types.specs.declared.interface.UseKind.TheVariants as kind
use Rattle.occ_types.specs.declared.value.Value.{Value}
use Rattle.occ_typing_rules.specs.declared.expr.Selector.{Selector}
use Rattle.occ_typing_rules.specs.declared.expr.Selector.TheFolds.{fold-Selector, fold-TypedActual, fold-TypedElement, fold-TypedExpr}
use Rattle.occ_typing_rules.specs.declared.expr.Selector.TheOpen.{Selector-F, TypedActual-F, TypedElement-F, TypedExpr-F}
use Rattle.occ_typing_rules.specs.declared.expr.TypedActual.{TypedActual}
use Rattle.occ_typing_rules.specs.declared.expr.TypedElement.{TypedElement}
use Rattle.occ_typing_rules.specs.declared.expr.TypedExpr.{TypedExpr}
use Rattle.occ_usage_values.specs.Bounds.{Env, body_of, effect_of, place_of, size_of, value_of}
use Rattle.occ_usage_values.specs.Calls.{Call, called_all, made}
use Rattle.occ_usage_values.specs.Values.{converted_to, folded_after, int_of, known_or, less, one, size_value, whole}
use Rattle.occ_usage_values.specs.declared.uses.Use.{Use}

-- what is used, and what is called, at a line
abbrev pub Uses : Type 0
Uses = Env → Location → List Use

abbrev pub Calls : Type 0
Calls = Env → Location → List Call

-- whether a body is called that has an input, an output, a PAR or an ALT
abbrev pub Effects : Type 0
Effects = Env → Bool

abbrev pub no_effect : Effects
no_effect env = false

abbrev pub no_uses : Uses
no_uses env line = []

abbrev pub no_calls : Calls
no_calls env line = []

-- its value, the number of its components, and what it uses and calls where it is evaluated
pub record ExprView : Type 0 where
  pub value : Env → Option Value
  pub size : Env → Option ℤ
  pub uses : Uses
  pub calls : Calls
  pub effect : Effects

-- also the place that it selects; it uses and calls what its subscripts and bounds do
pub record ElementView : Type 0 where
  pub value : Env → Option Value
  pub size : Env → Option ℤ
  pub place : Env → Option SelectedPart
  pub uses : Uses
  pub calls : Calls
  pub effect : Effects

-- what it selects from a place of so many components
pub record SelectorView : Type 0 where
  pub size : Env → Option ℤ → Option ℤ
  pub place : Env → Option ℤ → SelectedPart → SelectedPart
  pub uses : Uses
  pub calls : Calls
  pub effect : Effects

-- what it is for a formal that is not VAL, and what is evaluated for it
pub record ActualView : Type 0 where
  pub place : Env → Option SelectedPart
  pub uses : Uses
  pub calls : Calls
  pub effect : Effects

-- ---- one after the other

abbrev pub each_uses : List ExprView → Uses
each_uses [] env line = []
each_uses (x ∷ xs) env line = x.uses env line ++ each_uses xs env line

abbrev pub each_calls : List ExprView → Calls
each_calls [] env line = []
each_calls (x ∷ xs) env line = x.calls env line ++ each_calls xs env line

abbrev pub selectors_uses : List SelectorView → Uses
selectors_uses [] env line = []
selectors_uses (x ∷ xs) env line = x.uses env line ++ selectors_uses xs env line

abbrev pub selectors_calls : List SelectorView → Calls
selectors_calls [] env line = []
selectors_calls (x ∷ xs) env line = x.calls env line ++ selectors_calls xs env line

abbrev pub actuals_uses : List ActualView → Uses
actuals_uses [] env line = []
actuals_uses (x ∷ xs) env line = x.uses env line ++ actuals_uses xs env line

abbrev pub actuals_calls : List ActualView → Calls
actuals_calls [] env line = []
actuals_calls (x ∷ xs) env line = x.calls env line ++ actuals_calls xs env line

abbrev pub each_effect : List ExprView → Effects
each_effect [] env = false
each_effect (x ∷ xs) env = x.effect env || each_effect xs env

abbrev pub selectors_effect : List SelectorView → Effects
selectors_effect [] env = false
selectors_effect (x ∷ xs) env = x.effect env || selectors_effect xs env

abbrev pub actuals_effect : List ActualView → Effects
actuals_effect [] env = false
actuals_effect (x ∷ xs) env = x.effect env || actuals_effect xs env

abbrev pub places_of : List ActualView → Env → List (Option SelectedPart)
places_of [] env = []
places_of (x ∷ xs) env = x.place env ∷ places_of xs env

-- ---- calls of the specification with this number

abbrev pub called_uses : ℕ → List ActualView → Uses
called_uses callee xs env line = called_all line callee (places_of xs env) (body_of (slice_get env callee))

abbrev pub call_uses : ℕ → List ActualView → Uses
call_uses callee xs env line = actuals_uses xs env line ++ called_uses callee xs env line

abbrev pub call_at : ℕ → List ActualView → Env → Location → Call
call_at callee xs env line =
    record { callee = callee; places = places_of xs env; reads = actuals_uses xs env line; uses = called_uses callee xs env line }

abbrev pub call_calls : ℕ → List ActualView → Calls
call_calls callee xs env line = actuals_calls xs env line ++ call_at callee xs env line ∷ []

abbrev pub call_effect : ℕ → List ActualView → Effects
call_effect callee xs env = actuals_effect xs env || effect_of (slice_get env callee)

-- ---- selectors

abbrev pub from_place : Option ℕ → ExprView → Env → Option ℤ → SelectedPart → SelectedPart
from_place typed e env size p = with_segment p (int_of (e.value env)) (less (whole typed size) (int_of (e.value env)))

abbrev pub selector_step : Selector-F SelectorView ActualView ExprView ElementView → SelectorView
selector_step (Selector-F.Field k name) =
    record { size = λ env size. None; place = λ env size p. with_field p name; uses = no_uses; calls = no_calls; effect = no_effect }
selector_step (Selector-F.Component e) =
    record { size = λ env size. None; place = λ env size p. with_subscript p (int_of (e.value env)); uses = e.uses; calls = e.calls; effect = e.effect }
selector_step (Selector-F.From typed e) =
    record { size = λ env size. less (whole typed size) (int_of (e.value env)); place = from_place typed e; uses = e.uses; calls = e.calls; effect = e.effect }
selector_step (Selector-F.For typed e) =
    record { size = λ env size. int_of (e.value env); place = λ env size p. with_segment p (Some (pos 0)) (int_of (e.value env)); uses = e.uses; calls = e.calls; effect = e.effect }
selector_step (Selector-F.FromFor typed e f) =
    record {
      size = λ env size. int_of (f.value env);
      place = λ env size p. with_segment p (int_of (e.value env)) (int_of (f.value env));
      uses = λ env line. e.uses env line ++ f.uses env line;
      calls = λ env line. e.calls env line ++ f.calls env line;
      effect = λ env. e.effect env || f.effect env;
    }

-- ---- elements

abbrev pub sized : List SelectorView → Env → Option ℤ → Option ℤ
sized [] env size = size
sized (x ∷ xs) env size = sized xs env (x.size env size)

-- what is selected from a place of so many components
abbrev pub placed : List SelectorView → Env → Option ℤ → SelectedPart → SelectedPart
placed [] env size p = p
placed (x ∷ xs) env size p = placed xs env (x.size env size) (x.place env size p)

abbrev pub placed_from : List SelectorView → Env → Option ℤ → Option SelectedPart → Option SelectedPart
placed_from xs env size None = None
placed_from xs env size (Some p) = Some (placed xs env size p)

-- only a name alone has a value
abbrev pub name_value : List SelectorView → Option Value → Option Value
name_value [] x = x
name_value (s ∷ ss) x = None

abbrev pub element_step : TypedElement-F SelectorView ActualView ExprView ElementView → ElementView
element_step el =
    record {
      value = λ env. known_or el.known.value (name_value el.selectors (value_of (slice_get env el.referent.spec)));
      size = λ env. sized el.selectors env (size_of (slice_get env el.referent.spec));
      place = λ env. placed_from el.selectors env (size_of (slice_get env el.referent.spec)) (place_of el.referent.spec (slice_get env el.referent.spec));
      uses = selectors_uses el.selectors;
      calls = selectors_calls el.selectors;
      effect = selectors_effect el.selectors;
    }

-- ---- actuals

abbrev pub actual_step : TypedActual-F SelectorView ActualView ExprView ElementView → ActualView
actual_step (TypedActual-F.Value e) = record { place = λ env. None; uses = e.uses; calls = e.calls; effect = e.effect }
actual_step (TypedActual-F.Variable el) = record { place = el.place; uses = el.uses; calls = el.calls; effect = el.effect }

-- ---- expressions

-- the value of operands with one operator between each two
abbrev pub values_of : List ExprView → List (Env → Option Value)
values_of [] = []
values_of (x ∷ xs) = x.value ∷ values_of xs

abbrev pub folded_all : Operator → List ExprView → Env → Option Value
folded_all op [] env = None
folded_all op (x ∷ xs) env = folded_after op (x.value env) (values_of xs) env

-- of parts that are evaluated one after the other, with this value where it has one
abbrev pub composed : (Env → Option Value) → List ExprView → ExprView
composed value xs = record { value = value; size = λ env. None; uses = each_uses xs; calls = each_calls xs; effect = each_effect xs }

-- of one part
abbrev pub around : (Env → Option Value) → ExprView → ExprView
around value x = record { value = value; size = λ env. None; uses = x.uses; calls = x.calls; effect = x.effect }

abbrev pub expr_step : TypedExpr-F SelectorView ActualView ExprView ElementView → ExprView
expr_step (TypedExpr-F.Literal x) = composed (λ env. x.value) []
expr_step (TypedExpr-F.Element el) =
    record { value = el.value; size = el.size; uses = λ env line. el.uses env line ++ made line kind.Read (el.place env); calls = el.calls; effect = el.effect }
expr_step (TypedExpr-F.Operation x op es) = composed (λ env. known_or x.value (folded_all op es env)) es
expr_step (TypedExpr-F.Applied x op e) = around (λ env. known_or x.value (one op (e.value env))) e
expr_step (TypedExpr-F.Size x e) = composed (λ env. known_or x.value (size_value (e.size env))) []
expr_step (TypedExpr-F.Converted x e) = around (λ env. known_or x.value (converted_to x.of (e.value env))) e
expr_step (TypedExpr-F.Table x es) = composed (λ env. None) es
expr_step (TypedExpr-F.Call x callee xs) =
    record { value = λ env. None; size = λ env. None; uses = call_uses callee.spec xs; calls = call_calls callee.spec xs; effect = call_effect callee.spec xs }

-- ---- of trees

abbrev pub expr_view : TypedExpr → ExprView
expr_view = fold-TypedExpr SelectorView ActualView ExprView ElementView selector_step actual_step expr_step element_step

abbrev pub element_view : TypedElement → ElementView
element_view = fold-TypedElement SelectorView ActualView ExprView ElementView selector_step actual_step expr_step element_step

abbrev pub selector_view : Selector → SelectorView
selector_view = fold-Selector SelectorView ActualView ExprView ElementView selector_step actual_step expr_step element_step

abbrev pub actual_view : TypedActual → ActualView
actual_view = fold-TypedActual SelectorView ActualView ExprView ElementView selector_step actual_step expr_step element_step

abbrev pub expr_views : List TypedExpr → List ExprView
expr_views [] = []
expr_views (e ∷ es) = expr_view e ∷ expr_views es

abbrev pub selector_views : List Selector → List SelectorView
selector_views [] = []
selector_views (s ∷ ss) = selector_view s ∷ selector_views ss

abbrev pub actual_views : List TypedActual → List ActualView
actual_views [] = []
actual_views (x ∷ xs) = actual_view x ∷ actual_views xs
