-- When what a line carries is whole: its expressions, elements and actuals, what it sends and receives, its guard and its
-- replicator. No form of a tree is that of what is unknown. Each part has a type in which nothing is unknown, also what was
-- free until its place gave it one, and each name a specification of its sort: an element one of an element, a call one of a
-- function. How parts fit together is not asked. What a tree may be without is the value of what is no constant, the number of
-- components that a segment is taken of, where the array does not report it, and the base and the count of a replicator that is
-- not known: nothing is said of them.
use Rattle.std.specs.Prelude.{ℕ, Option, List, [], ◌∷◌}
use Rattle.occ_scope.specs.declared.meaning.Referent.{Referent}
use Rattle.occ_typing_operands.specs.declared.kind.Known.{Known}
use Rattle.occ_typing_statements.specs.declared.replicator_tree.TypedReplicator.{TypedReplicator}
use Rattle.occ_typing_rules.specs.declared.expr.Selector.{Selector, out-Selector}
use Rattle.occ_typing_rules.specs.declared.expr.Selector.TheOpen.{Selector-F, TypedActual-F, TypedExpr-F}
use Rattle.occ_typing_rules.specs.declared.expr.TypedActual.{TypedActual, out-TypedActual}
use Rattle.occ_typing_rules.specs.declared.expr.TypedElement.{TypedElement, out-TypedElement}
use Rattle.occ_typing_rules.specs.declared.expr.TypedExpr.{TypedExpr, out-TypedExpr}
use Rattle.occ_typing_statements.specs.declared.exchange_tree.TypedInput.{TypedInput}
use Rattle.occ_typing_statements.specs.declared.exchange_tree.TypedInput.TheVariants as input
use Rattle.occ_typing_statements.specs.declared.exchange_tree.TypedOutput.{TypedOutput}
use Rattle.occ_typing_statements.specs.declared.exchange_tree.TypedOutput.TheVariants as output
use Rattle.occ_typing_statements.specs.declared.exchange_tree.TypedTarget.{TypedTarget}
use Rattle.occ_typing_statements.specs.declared.exchange_tree.TypedTarget.TheVariants as target
use Rattle.occ_typing_lines.specs.declared.tree.TypedGuard.{TypedGuard}
use Rattle.occ_typing_lines.specs.declared.tree.TypedGuard.TheVariants as guard
use Rattle.occ_types.specs.declared.constant.Monadic.{Monadic}
use Rattle.occ_types.specs.declared.constant.Operator.{Operator}
use Rattle.occ_typing.specs.Known.{IsKnownElement, IsKnownFunction, IsKnownType}

-- ---- expressions and elements

abbrev pub ExprForm : Type 0
ExprForm = TypedExpr-F Selector TypedActual TypedExpr TypedElement

abbrev pub ActualForm : Type 0
ActualForm = TypedActual-F Selector TypedActual TypedExpr TypedElement

abbrev pub SelectorForm : Type 0
SelectorForm = Selector-F Selector TypedActual TypedExpr TypedElement

-- a tree is whole if its form is; of a form its type is asked, its names, and all of its parts
mutual
  pub data IsWholeExpr : TypedExpr → Type 0 where
    whole_expr : (t : TypedExpr) → IsWholeExprForm (out-TypedExpr t) → IsWholeExpr t

  pub data IsWholeExprForm : ExprForm → Type 0 where
    literal : (x : Known) → IsKnownType x.of → IsWholeExprForm (TypedExpr-F.Literal x)
    element : (el : TypedElement) → IsWholeElement el → IsWholeExprForm (TypedExpr-F.Element el)
    operation : (x : Known) (op : Operator) (ts : List TypedExpr) → IsKnownType x.of → AreWholeExprs ts → IsWholeExprForm (TypedExpr-F.Operation x op ts)
    applied : (x : Known) (op : Monadic) (t : TypedExpr) → IsKnownType x.of → IsWholeExpr t → IsWholeExprForm (TypedExpr-F.Applied x op t)
    size : (x : Known) (t : TypedExpr) → IsKnownType x.of → IsWholeExpr t → IsWholeExprForm (TypedExpr-F.Size x t)
    converted : (x : Known) (t : TypedExpr) → IsKnownType x.of → IsWholeExpr t → IsWholeExprForm (TypedExpr-F.Converted x t)
    table : (x : Known) (ts : List TypedExpr) → IsKnownType x.of → AreWholeExprs ts → IsWholeExprForm (TypedExpr-F.Table x ts)
    call : (x : Known) (callee : Referent) (actuals : List TypedActual) → IsKnownType x.of → IsKnownFunction callee.meaning → AreWholeActuals actuals → IsWholeExprForm (TypedExpr-F.Call x callee actuals)

  pub data AreWholeExprs : List TypedExpr → Type 0 where
    no_expr : AreWholeExprs []
    one_expr : (t : TypedExpr) (ts : List TypedExpr) → IsWholeExpr t → AreWholeExprs ts → AreWholeExprs (t ∷ ts)

  pub data IsWholeActual : TypedActual → Type 0 where
    whole_actual : (a : TypedActual) → IsWholeActualForm (out-TypedActual a) → IsWholeActual a

  pub data IsWholeActualForm : ActualForm → Type 0 where
    value : (t : TypedExpr) → IsWholeExpr t → IsWholeActualForm (TypedActual-F.Value t)
    variable : (el : TypedElement) → IsWholeElement el → IsWholeActualForm (TypedActual-F.Variable el)

  pub data AreWholeActuals : List TypedActual → Type 0 where
    no_actual : AreWholeActuals []
    one_actual : (a : TypedActual) (actuals : List TypedActual) → IsWholeActual a → AreWholeActuals actuals → AreWholeActuals (a ∷ actuals)

  pub data IsWholeElement : TypedElement → Type 0 where
    whole_element : (el : TypedElement) → IsKnownType (out-TypedElement el).known.of → IsKnownElement (out-TypedElement el).referent.meaning → AreWholeSelectors (out-TypedElement el).selectors → IsWholeElement el

  pub data IsWholeSelector : Selector → Type 0 where
    whole_selector : (x : Selector) → IsWholeSelectorForm (out-Selector x) → IsWholeSelector x

  pub data IsWholeSelectorForm : SelectorForm → Type 0 where
    field : (place : ℕ) (name : List ℕ) → IsWholeSelectorForm (Selector-F.Field place name)
    component : (t : TypedExpr) → IsWholeExpr t → IsWholeSelectorForm (Selector-F.Component t)
    from : (n : Option ℕ) (t : TypedExpr) → IsWholeExpr t → IsWholeSelectorForm (Selector-F.From n t)
    so_many : (n : Option ℕ) (t : TypedExpr) → IsWholeExpr t → IsWholeSelectorForm (Selector-F.For n t)
    from_so_many : (n : Option ℕ) (t u : TypedExpr) → IsWholeExpr t → IsWholeExpr u → IsWholeSelectorForm (Selector-F.FromFor n t u)

  pub data AreWholeSelectors : List Selector → Type 0 where
    no_selector : AreWholeSelectors []
    one_selector : (x : Selector) (xs : List Selector) → IsWholeSelector x → AreWholeSelectors xs → AreWholeSelectors (x ∷ xs)

-- each of them is so
abbrev pub AllAre : {X : Type 0} → (X → Type 0) → List X → Type 0
AllAre P [] = Unit {0}
AllAre P (x ∷ xs) = P x × AllAre P xs

-- ---- what is sent and received

abbrev pub IsWholeOutput : TypedOutput → Type 0
IsWholeOutput (output.Value t) = IsWholeExpr t
IsWholeOutput (output.Counted n t) = IsWholeExpr n × IsWholeExpr t
IsWholeOutput (output.Tag place name) = Unit {0}

abbrev pub IsWholeTarget : TypedTarget → Type 0
IsWholeTarget (target.Single el) = IsWholeElement el
IsWholeTarget (target.Counted n el) = IsWholeElement n × IsWholeElement el

abbrev pub IsWholeInput : TypedInput → Type 0
IsWholeInput (input.Plain el xs) = IsWholeElement el × AllAre IsWholeTarget xs
IsWholeInput (input.Time el x) = IsWholeElement el × IsWholeElement x
IsWholeInput (input.After el t) = IsWholeElement el × IsWholeExpr t
IsWholeInput (input.Tagged el place name xs) = IsWholeElement el × AllAre IsWholeTarget xs

-- ---- guards and replicators

abbrev pub IsWholeGuard : TypedGuard → Type 0
IsWholeGuard guard.Skip = Unit {0}
IsWholeGuard (guard.Input x) = IsWholeInput x
IsWholeGuard (guard.CaseInput el) = IsWholeElement el

abbrev pub IsWholeReplicator : TypedReplicator → Type 0
IsWholeReplicator r = IsWholeExpr r.base × IsWholeExpr r.count
