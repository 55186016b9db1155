-- Each form of a tree is whole if its parts are.
use Rattle.std.proofs.Common.{◌≡◌, ◌∙◌, ℕ, List, Option, ap, sym, subst}
use Rattle.occ_scope.specs.declared.meaning.Referent.{Referent}
use Rattle.occ_typing_operands.specs.declared.kind.Known.{Known}
use Rattle.occ_typing_rules.specs.declared.expr.Selector.{Selector, out-Selector, roll-Selector}
use Rattle.occ_typing_rules.specs.declared.expr.Selector.TheOpen.{Selector-F, TypedActual-F, TypedExpr-F}
use Rattle.occ_typing_rules.specs.declared.expr.Selector.TheVariants as by
use Rattle.occ_typing_rules.specs.declared.expr.Selector.TheViews.{out-roll-Selector, out-roll-TypedActual, out-roll-TypedExpr}
use Rattle.occ_typing_rules.specs.declared.expr.TypedActual.{TypedActual, out-TypedActual, roll-TypedActual}
use Rattle.occ_typing_rules.specs.declared.expr.TypedActual.TheVariants as actual
use Rattle.occ_typing_rules.specs.declared.expr.TypedElement.{TypedElement}
use Rattle.occ_typing_rules.specs.declared.expr.TypedExpr.{TypedExpr, out-TypedExpr, roll-TypedExpr}
use Rattle.occ_typing_rules.specs.declared.expr.TypedExpr.TheVariants as typed
use Rattle.occ_types.specs.declared.constant.Monadic.{Monadic}
use Rattle.occ_types.specs.declared.constant.Operator.{Operator}
use Rattle.occ_typing.specs.Known.{IsKnownFunction, IsKnownType}
use Rattle.occ_typing.specs.WholeTrees.{ActualForm, AreWholeActuals, AreWholeExprs, ExprForm, IsWholeActual, IsWholeActualForm, IsWholeElement, IsWholeExpr, IsWholeExprForm, IsWholeSelector, IsWholeSelectorForm, SelectorForm}
use Rattle.occ_typing.specs.WholeTrees as wholes

-- ---- expressions

expr_is : (y : ExprForm) (t : TypedExpr) → roll-TypedExpr y ≡ t → IsWholeExprForm y → IsWholeExpr t
expr_is y t is h = wholes.whole_expr t (subst IsWholeExprForm (sym (ap out-TypedExpr (sym is) ∙ out-roll-TypedExpr y)) h)

pub literal : (x : Known) → IsKnownType x.of → IsWholeExpr (typed.Literal x)
literal x h = expr_is (TypedExpr-F.Literal x) (typed.Literal x) (typed.rolls-Literal x) (wholes.literal x h)

pub element : (el : TypedElement) → IsWholeElement el → IsWholeExpr (typed.Element el)
element el h = expr_is (TypedExpr-F.Element el) (typed.Element el) (typed.rolls-Element el) (wholes.element el h)

pub operation : (x : Known) (op : Operator) (ts : List TypedExpr) → IsKnownType x.of → AreWholeExprs ts → IsWholeExpr (typed.Operation x op ts)
operation x op ts h g = expr_is (TypedExpr-F.Operation x op ts) (typed.Operation x op ts) (typed.rolls-Operation x op ts) (wholes.operation x op ts h g)

pub applied : (x : Known) (op : Monadic) (t : TypedExpr) → IsKnownType x.of → IsWholeExpr t → IsWholeExpr (typed.Applied x op t)
applied x op t h g = expr_is (TypedExpr-F.Applied x op t) (typed.Applied x op t) (typed.rolls-Applied x op t) (wholes.applied x op t h g)

pub size : (x : Known) (t : TypedExpr) → IsKnownType x.of → IsWholeExpr t → IsWholeExpr (typed.Size x t)
size x t h g = expr_is (TypedExpr-F.Size x t) (typed.Size x t) (typed.rolls-Size x t) (wholes.size x t h g)

pub converted : (x : Known) (t : TypedExpr) → IsKnownType x.of → IsWholeExpr t → IsWholeExpr (typed.Converted x t)
converted x t h g = expr_is (TypedExpr-F.Converted x t) (typed.Converted x t) (typed.rolls-Converted x t) (wholes.converted x t h g)

pub table : (x : Known) (ts : List TypedExpr) → IsKnownType x.of → AreWholeExprs ts → IsWholeExpr (typed.Table x ts)
table x ts h g = expr_is (TypedExpr-F.Table x ts) (typed.Table x ts) (typed.rolls-Table x ts) (wholes.table x ts h g)

pub call : (x : Known) (callee : Referent) (actuals : List TypedActual) → IsKnownType x.of → IsKnownFunction callee.meaning → AreWholeActuals actuals → IsWholeExpr (typed.Call x callee actuals)
call x callee actuals h g i = expr_is (TypedExpr-F.Call x callee actuals) (typed.Call x callee actuals) (typed.rolls-Call x callee actuals) (wholes.call x callee actuals h g i)

-- ---- actuals

actual_is : (y : ActualForm) (a : TypedActual) → roll-TypedActual y ≡ a → IsWholeActualForm y → IsWholeActual a
actual_is y a is h = wholes.whole_actual a (subst IsWholeActualForm (sym (ap out-TypedActual (sym is) ∙ out-roll-TypedActual y)) h)

pub value : (t : TypedExpr) → IsWholeExpr t → IsWholeActual (actual.Value t)
value t h = actual_is (TypedActual-F.Value t) (actual.Value t) (actual.rolls-Value t) (wholes.value t h)

pub variable : (el : TypedElement) → IsWholeElement el → IsWholeActual (actual.Variable el)
variable el h = actual_is (TypedActual-F.Variable el) (actual.Variable el) (actual.rolls-Variable el) (wholes.variable el h)

-- ---- selectors

selector_is : (y : SelectorForm) (x : Selector) → roll-Selector y ≡ x → IsWholeSelectorForm y → IsWholeSelector x
selector_is y x is h = wholes.whole_selector x (subst IsWholeSelectorForm (sym (ap out-Selector (sym is) ∙ out-roll-Selector y)) h)

pub field : (place : ℕ) (name : List ℕ) → IsWholeSelector (by.Field place name)
field place name = selector_is (Selector-F.Field place name) (by.Field place name) (by.rolls-Field place name) (wholes.field place name)

pub component : (t : TypedExpr) → IsWholeExpr t → IsWholeSelector (by.Component t)
component t h = selector_is (Selector-F.Component t) (by.Component t) (by.rolls-Component t) (wholes.component t h)

pub from : (n : Option ℕ) (t : TypedExpr) → IsWholeExpr t → IsWholeSelector (by.From n t)
from n t h = selector_is (Selector-F.From n t) (by.From n t) (by.rolls-From n t) (wholes.from n t h)

pub so_many : (n : Option ℕ) (t : TypedExpr) → IsWholeExpr t → IsWholeSelector (by.For n t)
so_many n t h = selector_is (Selector-F.For n t) (by.For n t) (by.rolls-For n t) (wholes.so_many n t h)

pub from_so_many : (n : Option ℕ) (t : TypedExpr) (u : TypedExpr) → IsWholeExpr t → IsWholeExpr u → IsWholeSelector (by.FromFor n t u)
from_so_many n t u h g = selector_is (Selector-F.FromFor n t u) (by.FromFor n t u) (by.rolls-FromFor n t u) (wholes.from_so_many n t u h g)
