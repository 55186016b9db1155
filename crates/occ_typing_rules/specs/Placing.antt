-- The trees that expressions become where a type is wanted of them: what is free takes the type, a table takes it item by
-- item, and all else has its own.
use Rattle.std.specs.Prelude.{ℕ, nat_le, Option, Some, None, List, [], ◌∷◌, length, if◌then◌else◌}
use Rattle.occ_typing_operands.specs.Outcomes.{in_type}
use Rattle.occ_typing_operands.specs.Settling.{base_of, number}
use Rattle.occ_typing_operands.specs.declared.kind.Untyped.{Untyped}
use Rattle.occ_typing_operands.specs.declared.kind.Kind.{Kind}
use Rattle.occ_typing_operands.specs.declared.kind.Kind.TheVariants as k
use Rattle.occ_typing_operands.specs.declared.kind.Known.{Known}
use Rattle.occ_typing_operands.specs.declared.kind.TypedValue.{TypedValue}
use Rattle.occ_typing_operands.specs.declared.kind.TypedValue.TheVariants as o
use Rattle.occ_types.specs.View.{as_array}
use Rattle.occ_types.specs.declared.constant.Monadic.{Monadic}
use Rattle.occ_types.specs.declared.constant.Operator.{Operator}
use Rattle.occ_types.specs.declared.types.OccType.{OccType}
use Rattle.occ_types.specs.declared.types.OccType.TheVariants as t
use Rattle.occ_types.specs.declared.value.Primitive.{Primitive}
use Rattle.occ_types.specs.declared.value.Value.{Value}
use Rattle.occ_typing_rules.specs.declared.open_expr.OpenExpr.{OpenExpr}
use Rattle.occ_typing_rules.specs.declared.open_expr.OpenExpr.TheFolds.{fold-OpenExpr}
use Rattle.occ_typing_rules.specs.declared.open_expr.OpenExpr.TheOpen.{OpenExpr-F}
use Rattle.occ_typing_rules.specs.declared.expr.Selector.{Selector}
use Rattle.occ_typing_rules.specs.declared.expr.Selector.TheOpen.{TypedExpr-F}
use Rattle.occ_typing_rules.specs.declared.expr.TypedActual.{TypedActual}
use Rattle.occ_typing_rules.specs.declared.expr.TypedElement.{TypedElement, out-TypedElement}
use Rattle.occ_typing_rules.specs.declared.expr.TypedExpr.{TypedExpr, out-TypedExpr}
use Rattle.occ_typing_rules.specs.declared.expr.TypedExpr.TheVariants as typed

-- ---- the type of a tree, and its value where it is constant

abbrev pub known_layer : TypedExpr-F Selector TypedActual TypedExpr TypedElement → Known
known_layer (TypedExpr-F.Literal x) = x
known_layer (TypedExpr-F.Element el) = (out-TypedElement el).known
known_layer (TypedExpr-F.Operation x op ts) = x
known_layer (TypedExpr-F.Applied x op t) = x
known_layer (TypedExpr-F.Size x t) = x
known_layer (TypedExpr-F.Converted x t) = x
known_layer (TypedExpr-F.Table x ts) = x
known_layer (TypedExpr-F.Call x callee actuals) = x

unfoldable pub known_of : TypedExpr → Known
known_of t = known_layer (out-TypedExpr t)

-- ---- an untyped expression as one of a type

abbrev pub constant_in : TypedValue → Option Value
constant_in o.Unfit = None
constant_in (o.Faulty x) = None
constant_in o.Varying = None
constant_in (o.Constant v) = Some v

abbrev pub value_in_base : Untyped → Option Primitive → Option Value
value_in_base f None = None
value_in_base f (Some base) = constant_in (in_type f base)

-- its value, where it has one in the number that the type is under its names
abbrev pub value_in : Untyped → OccType → Option Value
value_in f of = value_in_base f (number (base_of of))

abbrev pub known_in : Untyped → OccType → Known
known_in f of = record { of = of; value = value_in f of }

-- ---- open expressions

-- a tree for each type that may be wanted; none of what has a fault
abbrev pub Placing : Type 0
Placing = OccType → Option TypedExpr

-- one tree more in front of these, if all are there
abbrev pub with_first : Option TypedExpr → Option (List TypedExpr) → Option (List TypedExpr)
with_first None ts = None
with_first (Some x) None = None
with_first (Some x) (Some ts) = Some (x ∷ ts)

-- the same type is wanted of each
abbrev pub all_of : List Placing → OccType → Option (List TypedExpr)
all_of [] of = Some []
all_of (p ∷ ps) of = with_first (p of) (all_of ps of)

abbrev pub operation_of : Known → Operator → Option (List TypedExpr) → Option TypedExpr
operation_of x op None = None
operation_of x op (Some ts) = Some (typed.Operation x op ts)

abbrev pub applied_of : Known → Monadic → Option TypedExpr → Option TypedExpr
applied_of x op None = None
applied_of x op (Some t) = Some (typed.Applied x op t)

abbrev pub shifted_of : Known → Operator → Option TypedExpr → TypedExpr → Option TypedExpr
shifted_of x op None count = None
shifted_of x op (Some t) count = Some (typed.Operation x op (t ∷ count ∷ []))

-- the number of items, if a type can report it
abbrev pub count_of : ℕ → Option ℕ
count_of n = if nat_le n 4294967295 then Some n else None

abbrev pub array_known : ℕ → OccType → Known
array_known n component = record { of = t.Array (count_of n) component; value = None }

abbrev pub table_of : Known → Option (List TypedExpr) → Option TypedExpr
table_of x None = None
table_of x (Some ts) = Some (typed.Table x ts)

-- a table has as many components as items, and each item is wanted to be a component
abbrev pub table_in : List Placing → Option (Option ℕ × OccType) → Option TypedExpr
table_in ps None = None
table_in ps (Some parts) = table_of (array_known (length ps) parts.1) (all_of ps parts.1)

abbrev pub open_step : OpenExpr-F Placing → Placing
open_step OpenExpr-F.Faulty of = None
open_step (OpenExpr-F.Typed x) of = Some x
open_step (OpenExpr-F.Literal f) of = Some (typed.Literal (known_in f of))
open_step (OpenExpr-F.Operation f op ps) of = operation_of (known_in f of) op (all_of ps of)
open_step (OpenExpr-F.Applied f op p) of = applied_of (known_in f of) op (p of)
open_step (OpenExpr-F.Shifted f op p count) of = shifted_of (known_in f of) op (p of) count
open_step (OpenExpr-F.Table ps) of = table_in ps (as_array of)

-- the tree of an expression where this type is wanted of it
abbrev pub placed : OpenExpr → OccType → Option TypedExpr
placed = fold-OpenExpr Placing open_step

abbrev pub all_placed : List OpenExpr → OccType → Option (List TypedExpr)
all_placed [] of = Some []
all_placed (d ∷ ds) of = with_first (placed d of) (all_placed ds of)

abbrev pub placed_table : List OpenExpr → OccType → Option TypedExpr
placed_table ds component = table_of (array_known (length ds) component) (all_placed ds component)

-- a table, by the array that is wanted
abbrev pub table_under : List OpenExpr → Option (Option ℕ × OccType) → Option TypedExpr
table_under ds None = None
table_under ds (Some parts) = placed_table ds parts.1

-- of each the type at its place is wanted; there are as many types as expressions
abbrev pub each_placed : List OpenExpr → List OccType → Option (List TypedExpr)
each_placed [] [] = Some []
each_placed [] (of ∷ types) = None
each_placed (d ∷ ds) [] = None
each_placed (d ∷ ds) (of ∷ types) = with_first (placed d of) (each_placed ds types)

-- the tree of an expression of which this is known: of its own type
abbrev pub tree_of : Kind → OpenExpr → Option TypedExpr
tree_of k.Faulty x = None
tree_of (k.Untyped f) x = None
tree_of (k.Known y) x = placed x y.of
