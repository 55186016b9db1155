-- SIZE, and the least and the greatest value of a type.
use Rattle.std.specs.Prelude.{ℕ, ℤ, pos, Option, Some, None, []}
use Rattle.occ_base.specs.declared.code.Code.TheVariants as code
use Rattle.occ_types.specs.Constant.{greatest_of, least_of, number_value, value_of}
use Rattle.occ_types.specs.Fits.{unnamed}
use Rattle.occ_types.specs.View.{as_array}
use Rattle.occ_types.specs.declared.types.OccType.{OccType}
use Rattle.occ_types.specs.declared.value.Primitive.{Primitive}
use Rattle.occ_types.specs.declared.value.Primitive.TheVariants as p
use Rattle.occ_typing_operands.specs.Outcomes.{fitting}
use Rattle.occ_typing_operands.specs.Settling.{Finding, base_of, fault_of, int, known, landed, number, silent}
use Rattle.occ_typing_operands.specs.declared.kind.Kind.{Kind}
use Rattle.occ_typing_operands.specs.declared.kind.Kind.TheVariants as k
use Rattle.occ_typing_operands.specs.declared.kind.TypedValue.{TypedValue}
use Rattle.occ_typing_operands.specs.declared.kind.TypedValue.TheVariants as o
use Rattle.occ_typing_tables.specs.declared.measure.Limit.{Limit}
use Rattle.occ_typing_tables.specs.declared.measure.Limit.TheVariants as limit

-- ---- the number of components of an array, perhaps under names: a constant INT where it is known

abbrev pub size_outcome : Option ℕ → TypedValue
size_outcome None = o.Varying
size_outcome (Some n) = fitting (number_value p.Int (pos n))

abbrev pub size_of_array : Option (Option ℕ × OccType) → Finding
size_of_array None = fault_of code.T1
size_of_array (Some parts) = landed int (size_outcome parts.0)

abbrev pub sized : Kind → Finding
sized k.Faulty = silent
sized (k.Untyped f) = silent
sized (k.Known x) = size_of_array (as_array (unnamed x.of))

-- ---- MOSTNEG and MOSTPOS, of an integer type or BYTE, perhaps under names

abbrev pub limit_of : Limit → Primitive → ℤ
limit_of limit.Least = least_of
limit_of limit.Greatest = greatest_of

abbrev pub most_of : Limit → OccType → Option Primitive → Finding
most_of l of None = fault_of code.T1
most_of l of (Some primitive) = record { faults = []; kind = known of (Some (value_of primitive (limit_of l primitive))) }

abbrev pub most : Limit → OccType → Finding
most l of = most_of l of (number (base_of of))
