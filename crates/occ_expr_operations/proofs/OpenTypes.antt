-- The type of an open expression that is typed already, form by form.
use Rattle.std.proofs.Common.{◌≡◌, ◌∙◌, List, Some, None, ap, sym}
use Rattle.occ_typing_operands.specs.declared.kind.Untyped.{Untyped}
use Rattle.occ_typing_rules.specs.Placing.{known_of}
use Rattle.occ_typing_rules.specs.declared.open_expr.OpenExpr.{OpenExpr}
use Rattle.occ_typing_rules.specs.declared.open_expr.OpenExpr.TheOpen.{OpenExpr-F}
use Rattle.occ_typing_rules.specs.declared.open_expr.OpenExpr.TheViews.{out-roll-OpenExpr}
use Rattle.occ_typing_rules.specs.declared.open_expr.OpenExpr.TheVariants as d
use Rattle.occ_typing_rules.specs.declared.expr.TypedExpr.{TypedExpr}
use Rattle.occ_types.specs.declared.constant.Monadic.{Monadic}
use Rattle.occ_types.specs.declared.constant.Operator.{Operator}
use Rattle.occ_expr_operations.specs.OpenExprs.{own_type, type_layer}

pub type_of_faulty : own_type d.Faulty ≡ None
unfolding own_type
type_of_faulty = ap own_type (sym d.rolls-Faulty) ∙ ap type_layer (out-roll-OpenExpr OpenExpr-F.Faulty)

pub type_of_typed : (t : TypedExpr) → own_type (d.Typed t) ≡ Some (known_of t).of
unfolding own_type
type_of_typed t = ap own_type (sym (d.rolls-Typed t)) ∙ ap type_layer (out-roll-OpenExpr (OpenExpr-F.Typed t))

pub type_of_literal : (f : Untyped) → own_type (d.Literal f) ≡ None
unfolding own_type
type_of_literal f = ap own_type (sym (d.rolls-Literal f)) ∙ ap type_layer (out-roll-OpenExpr (OpenExpr-F.Literal f))

pub type_of_operation : (f : Untyped) (op : Operator) (xs : List OpenExpr) → own_type (d.Operation f op xs) ≡ None
unfolding own_type
type_of_operation f op xs = ap own_type (sym (d.rolls-Operation f op xs)) ∙ ap type_layer (out-roll-OpenExpr (OpenExpr-F.Operation f op xs))

pub type_of_applied : (f : Untyped) (op : Monadic) (x : OpenExpr) → own_type (d.Applied f op x) ≡ None
unfolding own_type
type_of_applied f op x = ap own_type (sym (d.rolls-Applied f op x)) ∙ ap type_layer (out-roll-OpenExpr (OpenExpr-F.Applied f op x))

pub type_of_shifted : (f : Untyped) (op : Operator) (x : OpenExpr) (count : TypedExpr) → own_type (d.Shifted f op x count) ≡ None
unfolding own_type
type_of_shifted f op x count = ap own_type (sym (d.rolls-Shifted f op x count)) ∙ ap type_layer (out-roll-OpenExpr (OpenExpr-F.Shifted f op x count))

pub type_of_table : (xs : List OpenExpr) → own_type (d.Table xs) ≡ None
unfolding own_type
type_of_table xs = ap own_type (sym (d.rolls-Table xs)) ∙ ap type_layer (out-roll-OpenExpr (OpenExpr-F.Table xs))

pub ruleset type_rules = (type_of_faulty, type_of_typed, type_of_literal, type_of_operation, type_of_applied, type_of_shifted, type_of_table)
