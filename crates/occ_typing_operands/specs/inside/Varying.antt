-- Operands that settle in a type without a fault, one of which has no value: what an operator gives on them is seen at once.
use Rattle.std.specs.Prelude.{Bool, true, false, not, ◌&&◌, Option, Some, None, List}
use Rattle.std.specs.List.{list_all, list_any}
use Rattle.occ_types.specs.Fits.{fits}
use Rattle.occ_types.specs.declared.constant.Operator.{Operator}
use Rattle.occ_types.specs.declared.types.OccType.{OccType}
use Rattle.occ_types.specs.declared.value.Primitive.{Primitive}
use Rattle.occ_types.specs.declared.value.Value.{Value}
use Rattle.occ_typing_operands.specs.Operators.{allows, class_of}
use Rattle.occ_typing_operands.specs.Outcomes.{in_type}
use Rattle.occ_typing_operands.specs.Settling.{base_of, number}
use Rattle.occ_typing_operands.specs.declared.kind.Kind.{Kind}
use Rattle.occ_typing_operands.specs.declared.kind.Kind.TheVariants as k
use Rattle.occ_typing_operands.specs.declared.kind.TypedValue.{TypedValue}
use Rattle.occ_typing_operands.specs.declared.kind.TypedValue.TheVariants as o
use Rattle.occ_typing_operands.specs.declared.kind.Untyped.{Untyped}

abbrev pub is_constant : TypedValue → Bool
is_constant o.Unfit = false
is_constant (o.Faulty x) = false
is_constant o.Varying = false
is_constant (o.Constant v) = true

abbrev pub has_value_in : Untyped → Option Primitive → Bool
has_value_in f None = false
has_value_in f (Some base) = is_constant (in_type f base)

-- it is of the type, or takes it and has a value in it
abbrev pub settles : OccType → Kind → Bool
settles of k.Faulty = false
settles of (k.Untyped f) = not f.is_faulty && has_value_in f (number (base_of of))
settles of (k.Known x) = fits of x.of

abbrev pub is_absent : Option Value → Bool
is_absent None = true
is_absent (Some v) = false

-- it is of a type and has no value
abbrev pub varies : Kind → Bool
varies k.Faulty = false
varies (k.Untyped f) = false
varies (k.Known x) = is_absent x.value

-- the operator takes operands of the type
abbrev pub takes_type : Operator → OccType → Bool
takes_type op of = allows (class_of op) (base_of of) && fits of of

-- it takes them, one of these has no value, and each settles in the type
abbrev pub is_varying : Operator → OccType → List Kind → Bool
is_varying op of ks = (takes_type op of && list_any varies ks) && list_all (settles of) ks
