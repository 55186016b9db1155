-- What an untyped expression comes to: an expression of undecorated integer literals, and of shifts of them by any count,
-- which takes the type that is wanted of it. It comes to something in each type that it may take.
use Rattle.std.specs.Prelude.{ℕ, ℤ, Bool, false, Option, Some, None, List, [], ◌∷◌, Result, Ok, Err}
use Rattle.occ_types.specs.Constant.{folded, folded_one, number_value, pattern_value}
use Rattle.occ_types.specs.declared.constant.ConstFault.{ConstFault}
use Rattle.occ_types.specs.declared.constant.Monadic.{Monadic}
use Rattle.occ_types.specs.declared.constant.Operator.{Operator}
use Rattle.occ_types.specs.declared.value.Primitive.{Primitive}
use Rattle.occ_types.specs.declared.value.Primitive.TheVariants as p
use Rattle.occ_types.specs.declared.value.Value.{Value}
use Rattle.occ_typing_operands.specs.declared.kind.Untyped.{Untyped}
use Rattle.occ_typing_operands.specs.declared.kind.TypedValue.{TypedValue}
use Rattle.occ_typing_operands.specs.declared.kind.TypedValue.TheVariants as o
use Rattle.occ_typing_operands.specs.declared.kind.Wrong.{Wrong}
use Rattle.occ_typing_operands.specs.declared.kind.Wrong.TheVariants as w

-- what it comes to in one of them; it never takes BOOL
abbrev pub in_type : Untyped → Primitive → TypedValue
in_type f p.Bool = o.Unfit
in_type f p.Byte = f.byte
in_type f p.Int16 = f.int16
in_type f p.Int = f.int
in_type f p.Int32 = f.int32
in_type f p.Int64 = f.int64

-- so in each of them, and faulty in all of them or not
abbrev pub in_each : Bool → (Primitive → TypedValue) → Untyped
in_each is_faulty report =
    record { is_faulty = is_faulty; byte = report p.Byte; int16 = report p.Int16; int = report p.Int; int32 = report p.Int32; int64 = report p.Int64 }

abbrev pub fitting : Option Value → TypedValue
fitting None = o.Unfit
fitting (Some v) = o.Constant v

-- a decimal literal, with the - in front if there is one
abbrev pub decimal : ℤ → Untyped
decimal n = in_each false (λ t. fitting (number_value t n))

-- a hexadecimal literal
abbrev pub hexadecimal : ℕ → Untyped
hexadecimal n = in_each false (λ t. fitting (pattern_value t n))

abbrev pub outcome_of : Result Value ConstFault → TypedValue
outcome_of (Ok v) = o.Constant v
outcome_of (Err fault) = o.Faulty w.Value

-- what is wrong with two operands
abbrev pub both_wrong : Wrong → Wrong → Wrong
both_wrong w.Count w.Count = w.Count
both_wrong w.Count w.Value = w.Both
both_wrong w.Count w.Both = w.Both
both_wrong w.Value w.Count = w.Both
both_wrong w.Value w.Value = w.Value
both_wrong w.Value w.Both = w.Both
both_wrong w.Both y = w.Both

-- of operands that are not all constant: a literal that does not fit comes first, then what is wrong with them
abbrev pub worse : TypedValue → TypedValue → TypedValue
worse o.Unfit b = o.Unfit
worse (o.Faulty x) o.Unfit = o.Unfit
worse (o.Faulty x) (o.Faulty y) = o.Faulty (both_wrong x y)
worse (o.Faulty x) o.Varying = o.Faulty x
worse (o.Faulty x) (o.Constant v) = o.Faulty x
worse o.Varying o.Unfit = o.Unfit
worse o.Varying (o.Faulty y) = o.Faulty y
worse o.Varying o.Varying = o.Varying
worse o.Varying (o.Constant v) = o.Varying
worse (o.Constant u) b = b

abbrev pub worst : TypedValue → List TypedValue → TypedValue
worst a [] = a
worst a (b ∷ bs) = worst (worse a b) bs

-- the value of constants with one operator between each two, from the left
abbrev pub with_next : Operator → TypedValue → TypedValue → TypedValue
with_next op (o.Constant a) (o.Constant b) = outcome_of (folded op a b)
with_next op (o.Constant a) o.Unfit = o.Unfit
with_next op (o.Constant a) (o.Faulty y) = o.Faulty y
with_next op (o.Constant a) o.Varying = o.Varying
with_next op o.Unfit b = o.Unfit
with_next op (o.Faulty x) b = o.Faulty x
with_next op o.Varying b = o.Varying

abbrev pub with_all : Operator → TypedValue → List TypedValue → TypedValue
with_all op a [] = a
with_all op a (b ∷ bs) = with_all op (with_next op a b) bs

abbrev pub if_constant : TypedValue → TypedValue → TypedValue
if_constant o.Unfit value = o.Unfit
if_constant (o.Faulty x) value = o.Faulty x
if_constant o.Varying value = o.Varying
if_constant (o.Constant v) value = value

-- operands with one operator between each two: it has a value, or no value, where all are constant
abbrev pub run : Operator → TypedValue → List TypedValue → TypedValue
run op a bs = if_constant (worst a bs) (with_all op a bs)

abbrev pub applied : Monadic → TypedValue → TypedValue
applied op (o.Constant a) = outcome_of (folded_one op a)
applied op o.Unfit = o.Unfit
applied op (o.Faulty x) = o.Faulty x
applied op o.Varying = o.Varying

-- a shift by this count, which is perhaps not constant
abbrev pub shifted : Operator → Option Value → TypedValue → TypedValue
shifted op (Some count) (o.Constant a) = outcome_of (folded op a count)
shifted op None (o.Constant a) = o.Varying
shifted op count o.Unfit = o.Unfit
shifted op count (o.Faulty x) = o.Faulty x
shifted op count o.Varying = o.Varying

-- a shift by a count that is no INT: nothing more is reported of it where what is shifted has a fault
abbrev pub misshifted : TypedValue → TypedValue
misshifted o.Unfit = o.Unfit
misshifted (o.Faulty x) = o.Faulty x
misshifted o.Varying = o.Faulty w.Count
misshifted (o.Constant v) = o.Faulty w.Count
