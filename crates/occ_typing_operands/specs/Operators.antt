-- What an operator gives, and what it asks of its operands.
use Rattle.std.specs.Prelude.{Bool, true, false, not, ◌&&◌, Option, Some, None, List, [], ◌∷◌, ◌++◌, map, if◌then◌else◌}
use Rattle.std.specs.List.{list_all, list_any}
use Rattle.occ_base.specs.declared.code.Code.TheVariants as code
use Rattle.occ_types.specs.Fits.{fits}
use Rattle.occ_types.specs.View.{as_primitive}
use Rattle.occ_types.specs.declared.constant.Monadic.{Monadic}
use Rattle.occ_types.specs.declared.constant.Monadic.TheVariants as m
use Rattle.occ_types.specs.declared.constant.Operator.{Operator}
use Rattle.occ_types.specs.declared.constant.Operator.TheVariants as op
use Rattle.occ_types.specs.declared.types.OccType.{OccType}
use Rattle.occ_types.specs.declared.types.OccType.TheVariants as t
use Rattle.occ_types.specs.declared.value.Primitive.{Primitive}
use Rattle.occ_types.specs.declared.value.Primitive.TheVariants as p
use Rattle.occ_types.specs.declared.value.Value.{Value}
use Rattle.occ_base.specs.declared.fault.Fault.{Fault}
use Rattle.occ_typing_operands.specs.declared.kind.Untyped.{Untyped}
use Rattle.occ_typing_operands.specs.declared.kind.Kind.{Kind}
use Rattle.occ_typing_operands.specs.declared.kind.Kind.TheVariants as k
use Rattle.occ_typing_operands.specs.declared.kind.TypedValue.{TypedValue}
use Rattle.occ_typing_operands.specs.declared.kind.TypedValue.TheVariants as o
use Rattle.occ_typing_operands.specs.declared.operate.Class.{Class}
use Rattle.occ_typing_operands.specs.declared.operate.Class.TheVariants as c
use Rattle.occ_typing_operands.specs.Outcomes.{applied, in_each, in_type, misshifted, run, shifted}
use Rattle.occ_typing_operands.specs.Settling.{Finding, base_of, fault_of, int, landed, number, settled, silent, wrong_faults}

-- ---- the classes of operators

abbrev pub class_of : Operator → Class
class_of op.Add = c.Arithmetic
class_of op.Subtract = c.Arithmetic
class_of op.Multiply = c.Arithmetic
class_of op.Divide = c.Arithmetic
class_of op.Remainder = c.Arithmetic
class_of op.Plus = c.Arithmetic
class_of op.Minus = c.Arithmetic
class_of op.Times = c.Arithmetic
class_of op.BitAnd = c.Arithmetic
class_of op.BitOr = c.Arithmetic
class_of op.BitXor = c.Arithmetic
class_of op.ShiftLeft = c.Arithmetic
class_of op.ShiftRight = c.Arithmetic
class_of op.Equal = c.Equality
class_of op.NotEqual = c.Equality
class_of op.Less = c.Order
class_of op.Greater = c.Order
class_of op.AtMost = c.Order
class_of op.AtLeast = c.Order
class_of op.After = c.Cyclic
class_of op.And = c.Logic
class_of op.Or = c.Logic

abbrev pub is_arithmetic : Class → Bool
is_arithmetic c.Arithmetic = true
is_arithmetic c.Equality = false
is_arithmetic c.Order = false
is_arithmetic c.Cyclic = false
is_arithmetic c.Logic = false

abbrev pub is_there : Option Primitive → Bool
is_there None = false
is_there (Some primitive) = true

abbrev pub is_bool : Option Primitive → Bool
is_bool (Some p.Bool) = true
is_bool _ = false

abbrev pub is_byte : Option Primitive → Bool
is_byte (Some p.Byte) = true
is_byte _ = false

abbrev pub is_int : Option Primitive → Bool
is_int (Some p.Int) = true
is_int _ = false

-- operands may be of a type that is this one under its names
abbrev pub allows : Class → Option Primitive → Bool
allows c.Arithmetic base = is_there (number base)
allows c.Equality base = is_there base
allows c.Order base = is_there (number base)
allows c.Cyclic base = is_there (number base) && not (is_byte base)
allows c.Logic base = is_bool base

-- the type of what the operator gives on operands of a type
abbrev pub given : Class → OccType → OccType
given c.Arithmetic of = of
given c.Equality of = t.Primitive p.Bool
given c.Order of = t.Primitive p.Bool
given c.Cyclic of = t.Primitive p.Bool
given c.Logic of = of

-- ---- operands with one operator between each two

-- the first that is not free decides the type of those that are
abbrev pub first_bound : List Kind → Option Kind
first_bound [] = None
first_bound (k.Untyped f ∷ ks) = first_bound ks
first_bound (k.Faulty ∷ ks) = Some k.Faulty
first_bound (k.Known x ∷ ks) = Some (k.Known x)

abbrev pub value_outcome : Option Value → TypedValue
value_outcome None = o.Varying
value_outcome (Some v) = o.Constant v

-- what an operand comes to: in a type, if it is free
abbrev pub outcome_in : Primitive → Kind → TypedValue
outcome_in of k.Faulty = o.Varying
outcome_in of (k.Untyped f) = in_type f of
outcome_in of (k.Known x) = value_outcome x.value

abbrev pub run_in : Operator → Primitive → List Kind → TypedValue
run_in op of [] = o.Varying
run_in op of (k ∷ ks) = run op (outcome_in of k) (map (outcome_in of) ks)

abbrev pub is_faulty : Kind → Bool
is_faulty k.Faulty = true
is_faulty (k.Untyped f) = false
is_faulty (k.Known x) = false

-- it is faulty, or will be in whatever type it takes
abbrev pub needs_faulty : Kind → Bool
needs_faulty k.Faulty = true
needs_faulty (k.Untyped f) = f.is_faulty
needs_faulty (k.Known x) = false

abbrev pub is_of : OccType → Kind → Bool
is_of of k.Faulty = false
is_of of (k.Untyped f) = false
is_of of (k.Known x) = fits of x.of

-- settled operands, which must be of one type: what the operator gives on them
abbrev pub verdict : Operator → OccType → List Kind → Finding
verdict op of ks =
    if list_any is_faulty ks then silent
    else (if allows (class_of op) (base_of of) && list_all (is_of of) ks then landed (given (class_of op) of) (run_in op p.Int ks) else fault_of code.T1)

abbrev pub all_faults : List Finding → List Fault
all_faults [] = []
all_faults (x ∷ xs) = x.faults ++ all_faults xs

abbrev pub kinds : List Finding → List Kind
kinds [] = []
kinds (x ∷ xs) = x.kind ∷ kinds xs

-- the operands take the type, and then they are judged
unfoldable pub decided : Operator → OccType → List Kind → Finding
decided op of ks =
    let xs = map (settled of) ks in
    let x = verdict op of (kinds xs) in
    record { faults = all_faults xs ++ x.faults; kind = x.kind }

abbrev pub operated_from : Option Kind → Operator → List Kind → Finding
operated_from None op ks =
    if is_arithmetic (class_of op) then record { faults = []; kind = k.Untyped (in_each (list_any needs_faulty ks) (λ of. run_in op of ks)) }
    else decided op int ks
operated_from (Some (k.Known x)) op ks = decided op x.of ks
operated_from (Some k.Faulty) op ks = silent
operated_from (Some (k.Untyped f)) op ks = silent

-- untyped operands are free under an arithmetic operator; else they take the type of the first operand that is not free,
-- or INT
abbrev pub operated : Operator → List Kind → Finding
operated op ks = operated_from (first_bound ks) op ks

-- the type of what is known of an operand
abbrev pub type_in : Kind → Option OccType
type_in k.Faulty = None
type_in (k.Untyped f) = None
type_in (k.Known x) = Some x.of

abbrev pub operand_type_from : Option Kind → Operator → Kind → Option OccType
operand_type_from None op whole = if is_arithmetic (class_of op) then type_in whole else Some int
operand_type_from (Some first) op whole = type_in first

-- the type that is wanted of each operand, where this is known of the whole: that of the first which is not free; if all
-- are free, that of the whole under an arithmetic operator, else INT. Not for shifts
abbrev pub operand_type : Operator → Kind → List Kind → Option OccType
operand_type op whole ks = operand_type_from (first_bound ks) op whole

-- ---- shifts

-- by a count that is no INT, and by a faulty one, the shift of an untyped operand is free all the same: what is shifted alone
-- decides which type it takes, and has its own faults there
abbrev pub known_count : Operator → Untyped → Bool → Option Value → Untyped
known_count op f count_is_int count =
    in_each f.is_faulty (λ of. if count_is_int then shifted op count (in_type f of) else misshifted (in_type f of))

abbrev pub faulty_count : Operator → Untyped → Untyped
faulty_count op f = in_each true (λ of. shifted op None (in_type f of))

abbrev pub shifted_by : Operator → Kind → Kind → Finding
shifted_by op k.Faulty count = silent
shifted_by op (k.Untyped f) k.Faulty = record { faults = []; kind = k.Untyped (faulty_count op f) }
shifted_by op (k.Untyped f) (k.Untyped g) = silent
shifted_by op (k.Untyped f) (k.Known y) = record { faults = []; kind = k.Untyped (known_count op f (is_int (as_primitive y.of)) y.value) }
shifted_by op (k.Known x) k.Faulty = silent
shifted_by op (k.Known x) (k.Untyped g) = silent
shifted_by op (k.Known x) (k.Known y) =
    if is_there (number (base_of x.of)) && is_int (as_primitive y.of) then landed x.of (shifted op y.value (value_outcome x.value))
    else fault_of code.T1

-- the count is an INT; the shift of an untyped operand is free
abbrev pub shift_operated : Operator → Kind → Kind → Finding
shift_operated op a count =
    let y = settled int count in
    let x = shifted_by op a y.kind in
    record { faults = y.faults ++ x.faults; kind = x.kind }

-- ---- operators in front

abbrev pub is_not : Monadic → Bool
is_not m.Negate = false
is_not m.Minus = false
is_not m.BitNot = false
is_not m.Not = true

-- a type that the operator takes is this one under its names
abbrev pub takes : Monadic → Option Primitive → Bool
takes m.Negate base = is_there (number base)
takes m.Minus base = is_there (number base)
takes m.BitNot base = is_there (number base)
takes m.Not base = is_bool base

abbrev pub not_number : Bool → Finding
not_number needs_faulty = if needs_faulty then silent else fault_of code.T1

-- NOT takes no number: an untyped operand is an INT, which may have a fault of its own
abbrev pub not_untyped : Bool → TypedValue → Finding
not_untyped needs_faulty o.Unfit = fault_of code.T6
not_untyped needs_faulty (o.Faulty x) = record { faults = wrong_faults x; kind = k.Faulty }
not_untyped needs_faulty o.Varying = not_number needs_faulty
not_untyped needs_faulty (o.Constant v) = not_number needs_faulty

abbrev pub front_operated : Monadic → Kind → Finding
front_operated op k.Faulty = silent
front_operated op (k.Untyped f) =
    if is_not op then not_untyped f.is_faulty f.int else record { faults = []; kind = k.Untyped (in_each f.is_faulty (λ of. applied op (in_type f of))) }
front_operated op (k.Known x) =
    if takes op (base_of x.of) then landed x.of (applied op (value_outcome x.value)) else fault_of code.T1
