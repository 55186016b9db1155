-- An operand where a type is wanted of it, and the operand of a conversion.
use Rattle.std.specs.Prelude.{Bool, true, false, ◌||◌, Option, Some, None, [], ◌++◌, if◌then◌else◌}
use Rattle.occ_base.specs.declared.code.Code.TheVariants as code
use Rattle.occ_types.specs.Constant.{converted}
use Rattle.occ_types.specs.Fits.{alike, fits}
use Rattle.occ_types.specs.View.{as_primitive}
use Rattle.occ_types.specs.declared.types.OccType.{OccType}
use Rattle.occ_types.specs.declared.value.Primitive.{Primitive}
use Rattle.occ_types.specs.declared.value.Value.{Value}
use Rattle.occ_typing_operands.specs.declared.kind.Kind.{Kind}
use Rattle.occ_typing_operands.specs.declared.kind.Kind.TheVariants as k
use Rattle.occ_typing_operands.specs.declared.kind.TypedValue.{TypedValue}
use Rattle.occ_typing_operands.specs.declared.kind.TypedValue.TheVariants as o
use Rattle.occ_typing_operands.specs.Outcomes.{outcome_of}
use Rattle.occ_typing_operands.specs.Settling.{Finding, base_of, fault_of, int, landed, settled, silent}

-- ---- wanted types

-- a settled operand must be of the type
abbrev pub fitted : OccType → Kind → Finding
fitted of k.Faulty = silent
fitted of (k.Untyped f) = silent
fitted of (k.Known x) = if fits of x.of then record { faults = []; kind = k.Known x } else fault_of code.T2

abbrev pub wanted : OccType → Kind → Finding
wanted of kind =
    let x = settled of kind in
    let y = fitted of x.kind in
    record { faults = x.faults ++ y.faults; kind = y.kind }

-- ---- conversions

abbrev pub are_there : Option Primitive → Option Primitive → Bool
are_there None q = false
are_there (Some p) None = false
are_there (Some p) (Some q) = true

-- both are primitive types without a name, or their definitions without names are equal
abbrev pub converts : OccType → OccType → Bool
converts to from = are_there (as_primitive to) (as_primitive from) || alike to from

-- the value of a constant in the type that is this one under its names
abbrev pub cast : Option Primitive → Option Value → TypedValue
cast None value = o.Varying
cast (Some base) None = o.Varying
cast (Some base) (Some v) = outcome_of (converted base v)

abbrev pub converted_from : OccType → Kind → Finding
converted_from to k.Faulty = silent
converted_from to (k.Untyped f) = silent
converted_from to (k.Known x) = if converts to x.of then landed to (cast (base_of to) x.value) else fault_of code.T2

-- a conversion wants nothing of its operand: a free one is an INT
abbrev pub conversion : OccType → Kind → Finding
conversion to kind =
    let x = settled int kind in
    let y = converted_from to x.kind in
    record { faults = x.faults ++ y.faults; kind = y.kind }
