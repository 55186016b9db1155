-- What is known of a tree, form by form.
use Rattle.std.proofs.Common.{◌≡◌, ◌∙◌, List, ap, sym}
use Rattle.occ_scope.specs.declared.meaning.Referent.{Referent}
use Rattle.occ_typing_operands.specs.declared.kind.Known.{Known}
use Rattle.occ_types.specs.declared.constant.Monadic.{Monadic}
use Rattle.occ_types.specs.declared.constant.Operator.{Operator}
use Rattle.occ_typing_rules.specs.declared.expr.Selector.TheOpen.{TypedExpr-F}
use Rattle.occ_typing_rules.specs.declared.expr.Selector.TheViews.{out-roll-TypedExpr}
use Rattle.occ_typing_rules.specs.declared.expr.TypedActual.{TypedActual}
use Rattle.occ_typing_rules.specs.declared.expr.TypedElement.{TypedElement, out-TypedElement}
use Rattle.occ_typing_rules.specs.declared.expr.TypedExpr.{TypedExpr}
use Rattle.occ_typing_rules.specs.declared.expr.TypedExpr.TheVariants as typed
use Rattle.occ_typing_rules.specs.Placing.{known_layer, known_of}

pub known_literal : (x : Known) → known_of (typed.Literal x) ≡ x
unfolding known_of
known_literal x = ap known_of (sym (typed.rolls-Literal x)) ∙ ap known_layer (out-roll-TypedExpr (TypedExpr-F.Literal x))

pub known_element : (el : TypedElement) → known_of (typed.Element el) ≡ (out-TypedElement el).known
unfolding known_of
known_element el = ap known_of (sym (typed.rolls-Element el)) ∙ ap known_layer (out-roll-TypedExpr (TypedExpr-F.Element el))

pub known_operation : (x : Known) (op : Operator) (ts : List TypedExpr) → known_of (typed.Operation x op ts) ≡ x
unfolding known_of
known_operation x op ts = ap known_of (sym (typed.rolls-Operation x op ts)) ∙ ap known_layer (out-roll-TypedExpr (TypedExpr-F.Operation x op ts))

pub known_applied : (x : Known) (op : Monadic) (t : TypedExpr) → known_of (typed.Applied x op t) ≡ x
unfolding known_of
known_applied x op t = ap known_of (sym (typed.rolls-Applied x op t)) ∙ ap known_layer (out-roll-TypedExpr (TypedExpr-F.Applied x op t))

pub known_size : (x : Known) (t : TypedExpr) → known_of (typed.Size x t) ≡ x
unfolding known_of
known_size x t = ap known_of (sym (typed.rolls-Size x t)) ∙ ap known_layer (out-roll-TypedExpr (TypedExpr-F.Size x t))

pub known_converted : (x : Known) (t : TypedExpr) → known_of (typed.Converted x t) ≡ x
unfolding known_of
known_converted x t = ap known_of (sym (typed.rolls-Converted x t)) ∙ ap known_layer (out-roll-TypedExpr (TypedExpr-F.Converted x t))

pub known_table : (x : Known) (ts : List TypedExpr) → known_of (typed.Table x ts) ≡ x
unfolding known_of
known_table x ts = ap known_of (sym (typed.rolls-Table x ts)) ∙ ap known_layer (out-roll-TypedExpr (TypedExpr-F.Table x ts))

pub known_call : (x : Known) (callee : Referent) (actuals : List TypedActual) → known_of (typed.Call x callee actuals) ≡ x
unfolding known_of
known_call x callee actuals = ap known_of (sym (typed.rolls-Call x callee actuals)) ∙ ap known_layer (out-roll-TypedExpr (TypedExpr-F.Call x callee actuals))

pub ruleset knowing_rules = (known_literal, known_element, known_operation, known_applied, known_size, known_converted, known_table, known_call)
