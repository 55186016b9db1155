-- The open expressions of expressions from those of their parts. An open expression has the parts of an expression in their order, without its
-- parentheses; what is known of the whole decides whether it is typed already, still free, or faulty.
use Rattle.std.specs.Prelude.{ℕ, Option, Some, None, List, [], ◌∷◌}
use Rattle.occ_scope.specs.declared.meaning.Referent.{Referent}
use Rattle.occ_typing_operands.specs.Settling.{int}
use Rattle.occ_typing_operands.specs.declared.kind.Untyped.{Untyped}
use Rattle.occ_typing_operands.specs.declared.kind.Kind.{Kind}
use Rattle.occ_typing_operands.specs.declared.kind.Kind.TheVariants as k
use Rattle.occ_typing_operands.specs.declared.kind.Known.{Known}
use Rattle.occ_typing_tables.specs.Terms.{Judged}
use Rattle.occ_typing_rules.specs.Placing.{all_placed, applied_of, each_placed, known_of, operation_of, placed, shifted_of, table_of}
use Rattle.occ_typing_rules.specs.declared.open_expr.OpenExpr.{OpenExpr, out-OpenExpr}
use Rattle.occ_typing_rules.specs.declared.open_expr.OpenExpr.TheOpen.{OpenExpr-F}
use Rattle.occ_typing_rules.specs.declared.open_expr.OpenExpr.TheVariants as d
use Rattle.occ_typing_rules.specs.declared.expr.TypedActual.{TypedActual}
use Rattle.occ_typing_rules.specs.declared.expr.TypedActual.TheVariants as actual
use Rattle.occ_typing_rules.specs.declared.expr.TypedExpr.{TypedExpr}
use Rattle.occ_typing_rules.specs.declared.expr.TypedExpr.TheVariants as typed
use Rattle.occ_types.specs.Fits.{unnamed}
use Rattle.occ_types.specs.View.{as_array, fields_in}
use Rattle.occ_types.specs.declared.constant.Monadic.{Monadic}
use Rattle.occ_types.specs.declared.constant.Monadic.TheVariants as m
use Rattle.occ_types.specs.declared.constant.Operator.{Operator}
use Rattle.occ_types.specs.declared.constant.Operator.TheVariants as op
use Rattle.occ_types.specs.declared.interface.Formal.{Formal}
use Rattle.occ_types.specs.declared.types.Field.{Field}
use Rattle.occ_types.specs.declared.types.OccType.{OccType}
use Rattle.occ_forms_expressions.specs.declared.tree.MonadicOperator.{MonadicOperator}
use Rattle.occ_forms_expressions.specs.declared.tree.MonadicOperator.TheVariants as mo
use Rattle.occ_forms_expressions.specs.declared.tree.PairOperator.{PairOperator}
use Rattle.occ_forms_expressions.specs.declared.tree.PairOperator.TheVariants as po
use Rattle.occ_expr_operations.specs.Operations.{converted, pair_operator, plain}

-- this tree, if all of its parts have theirs
abbrev pub opened : Option TypedExpr → OpenExpr
opened None = d.Faulty
opened (Some t) = d.Typed t

-- a literal, of which this is known; also TRUE, FALSE, and an end of a type
abbrev pub literal_open : Kind → OpenExpr
literal_open k.Faulty = d.Faulty
literal_open (k.Untyped f) = d.Literal f
literal_open (k.Known x) = d.Typed (typed.Literal x)

-- the type that an operand of which none is wanted has, of which this is known
abbrev pub type_alone : Kind → OccType
type_alone k.Faulty = int
type_alone (k.Untyped f) = int
type_alone (k.Known x) = x.of

-- ---- operators

abbrev pub type_layer : OpenExpr-F OpenExpr → Option OccType
type_layer OpenExpr-F.Faulty = None
type_layer (OpenExpr-F.Typed t) = Some (known_of t).of
type_layer (OpenExpr-F.Literal f) = None
type_layer (OpenExpr-F.Operation f op ds) = None
type_layer (OpenExpr-F.Applied f op x) = None
type_layer (OpenExpr-F.Shifted f op x count) = None
type_layer (OpenExpr-F.Table ds) = None

-- the type of what is typed already
unfoldable pub own_type : OpenExpr → Option OccType
own_type x = type_layer (out-OpenExpr x)

abbrev pub type_or : Option OccType → OccType → OccType
type_or None of = of
type_or (Some own) of = own

-- the type of the first operand that is not free, which all take; if all are free, INT
abbrev pub operands_type : List OpenExpr → OccType
operands_type [] = int
operands_type (x ∷ xs) = type_or (own_type x) (operands_type xs)

unfoldable pub operation_open : Kind → Operator → List OpenExpr → OpenExpr
operation_open k.Faulty op xs = d.Faulty
operation_open (k.Untyped f) op xs = d.Operation f op xs
operation_open (k.Known x) op xs = opened (operation_of x op (all_placed xs (operands_type xs)))

abbrev pub shifted_untyped : Untyped → Operator → OpenExpr → Option TypedExpr → OpenExpr
shifted_untyped f op x None = d.Faulty
shifted_untyped f op x (Some count) = d.Shifted f op x count

abbrev pub shifted_known : Known → Operator → Option TypedExpr → Option TypedExpr → Option TypedExpr
shifted_known x op t None = None
shifted_known x op t (Some count) = shifted_of x op t count

-- the count of a shift is an INT
unfoldable pub shift_open : Kind → Operator → OpenExpr → OpenExpr → OpenExpr
shift_open k.Faulty op x count = d.Faulty
shift_open (k.Untyped f) op x count = shifted_untyped f op x (placed count int)
shift_open (k.Known y) op x count = opened (shifted_known y op (placed x y.of) (placed count int))

unfoldable pub pair_open : Kind → PairOperator → OpenExpr → OpenExpr → OpenExpr
pair_open whole po.ShiftLeft x y = shift_open whole op.ShiftLeft x y
pair_open whole po.ShiftRight x y = shift_open whole op.ShiftRight x y
pair_open whole operator x y = operation_open whole (pair_operator operator) (x ∷ y ∷ [])

unfoldable pub front_open : Kind → Monadic → OpenExpr → OpenExpr
front_open k.Faulty op x = d.Faulty
front_open (k.Untyped f) op x = d.Applied f op x
front_open (k.Known y) op x = opened (applied_of y op (placed x y.of))

-- `-` makes one literal with an integer in decimal digits that has no type of its own
abbrev pub negated_open : Kind → Option ℕ → OpenExpr → OpenExpr
negated_open whole None x = front_open whole m.Negate x
negated_open whole (Some n) x = literal_open whole

abbrev pub size_of : Known → Option TypedExpr → Option TypedExpr
size_of x None = None
size_of x (Some t) = Some (typed.Size x t)

abbrev pub size_open : Kind → Kind → OpenExpr → OpenExpr
size_open k.Faulty operand x = d.Faulty
size_open (k.Untyped f) operand x = d.Faulty
size_open (k.Known y) operand x = opened (size_of y (placed x (type_alone operand)))

unfoldable pub applied_open : Kind → MonadicOperator → Option ℕ → Judged → OpenExpr → OpenExpr
applied_open whole mo.Negate digits operand x = negated_open whole digits x
applied_open whole mo.Minus digits operand x = front_open whole m.Minus x
applied_open whole mo.BitNot digits operand x = front_open whole m.BitNot x
applied_open whole mo.BitNotWord digits operand x = front_open whole m.BitNot x
applied_open whole mo.Not digits operand x = front_open whole m.Not x
applied_open whole mo.Size digits operand x = size_open whole operand.alone.kind x

-- ---- conversions, which want nothing of their operand

abbrev pub converted_of : Known → Option TypedExpr → Option TypedExpr
converted_of x None = None
converted_of x (Some t) = Some (typed.Converted x t)

abbrev pub converted_to : Kind → Kind → OpenExpr → OpenExpr
converted_to k.Faulty operand x = d.Faulty
converted_to (k.Untyped f) operand x = d.Faulty
converted_to (k.Known y) operand x = opened (converted_of y (placed x (type_alone operand)))

unfoldable pub conversion_open : Option OccType → Judged → OpenExpr → OpenExpr
conversion_open to operand x = converted_to (converted to operand).kind (plain operand).kind x

-- ---- tables

abbrev pub types_of : List Field → List OccType
types_of [] = []
types_of (f ∷ fs) = f.of ∷ types_of fs

abbrev pub values_placed : List OpenExpr → Option (List Field) → Option (List TypedExpr)
values_placed xs None = None
values_placed xs (Some fields) = each_placed xs (types_of fields)

abbrev pub components_placed : List OpenExpr → OccType → Option (Option ℕ × OccType) → Option (List TypedExpr)
components_placed xs of None = values_placed xs (fields_in (unnamed of))
components_placed xs of (Some parts) = all_placed xs parts.1

-- the items of a table of this type: components, or the values of fields in their order
abbrev pub items_placed : List OpenExpr → OccType → Option (List TypedExpr)
items_placed xs of = components_placed xs of (as_array (unnamed of))

-- a table with its type after it
unfoldable pub decorated_open : Kind → List OpenExpr → OpenExpr
decorated_open k.Faulty xs = d.Faulty
decorated_open (k.Untyped f) xs = d.Faulty
decorated_open (k.Known x) xs = opened (table_of x (items_placed xs x.of))

-- ---- calls of functions

abbrev pub formal_types : List Formal → List OccType
formal_types [] = []
formal_types (f ∷ fs) = f.of ∷ formal_types fs

abbrev pub by_value : List TypedExpr → List TypedActual
by_value [] = []
by_value (t ∷ ts) = actual.Value t ∷ by_value ts

abbrev pub typed_call : Known → Option Referent → Option (List TypedExpr) → Option TypedExpr
typed_call x None ts = None
typed_call x (Some r) None = None
typed_call x (Some r) (Some ts) = Some (typed.Call x r (by_value ts))

-- a call of this specification, whose first result is of this type: each actual is of the type of its formal
unfoldable pub called_tree : OccType → Option Referent → List Formal → List OpenExpr → Option TypedExpr
called_tree of r formals xs = typed_call (record { of = of; value = None }) r (each_placed xs (formal_types formals))

-- the call as an operand, of whose whole this is known
abbrev pub operand_call : Kind → Option Referent → List Formal → List OpenExpr → OpenExpr
operand_call k.Faulty r formals xs = d.Faulty
operand_call (k.Untyped f) r formals xs = d.Faulty
operand_call (k.Known x) r formals xs = opened (called_tree x.of r formals xs)
