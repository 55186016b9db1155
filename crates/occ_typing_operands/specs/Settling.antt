-- The type that an operand takes where one is wanted of it.
use Rattle.std.specs.Prelude.{Bool, Option, Some, None, List, [], ◌∷◌, if◌then◌else◌}
use Rattle.occ_base.specs.declared.code.Code.{Code}
use Rattle.occ_base.specs.declared.code.Code.TheVariants as code
use Rattle.occ_base.specs.Reporting.{nameless}
use Rattle.occ_types.specs.Fits.{unnamed}
use Rattle.occ_types.specs.View.{as_primitive}
use Rattle.occ_types.specs.declared.types.OccType.{OccType}
use Rattle.occ_types.specs.declared.types.OccType.TheVariants as t
use Rattle.occ_types.specs.declared.value.Primitive.{Primitive}
use Rattle.occ_types.specs.declared.value.Primitive.TheVariants as p
use Rattle.occ_types.specs.declared.value.Value.{Value}
use Rattle.occ_base.specs.declared.fault.Fault.{Fault}
use Rattle.occ_typing_operands.specs.declared.kind.Untyped.{Untyped}
use Rattle.occ_typing_operands.specs.declared.kind.Kind.{Kind}
use Rattle.occ_typing_operands.specs.declared.kind.Kind.TheVariants as k
use Rattle.occ_typing_operands.specs.declared.kind.TypedValue.{TypedValue}
use Rattle.occ_typing_operands.specs.declared.kind.TypedValue.TheVariants as o
use Rattle.occ_typing_operands.specs.declared.kind.Wrong.{Wrong}
use Rattle.occ_typing_operands.specs.declared.kind.Wrong.TheVariants as w
use Rattle.occ_typing_operands.specs.Outcomes.{in_type}

-- what is reported of an operand: its faults, and what is known of it
pub record Finding : Type 0 where
  pub faults : List Fault
  pub kind : Kind

-- the type of an untyped operand of which none is wanted
abbrev pub int : OccType
int = t.Primitive p.Int

abbrev pub fault_of : Code → Finding
fault_of c = record { faults = nameless c ∷ []; kind = k.Faulty }

-- it has a fault that was reported already
abbrev pub silent : Finding
silent = record { faults = []; kind = k.Faulty }

abbrev pub known : OccType → Option Value → Kind
known of value = k.Known (record { of = of; value = value })

abbrev pub wrong_faults : Wrong → List Fault
wrong_faults w.Count = nameless code.T1 ∷ []
wrong_faults w.Value = nameless code.T6 ∷ []
wrong_faults w.Both = nameless code.T1 ∷ nameless code.T6 ∷ []

-- of this type, it comes to that; a constant without a value, a literal that does not fit, and a shift by what is no INT
-- have a fault
abbrev pub landed : OccType → TypedValue → Finding
landed of o.Unfit = fault_of code.T6
landed of (o.Faulty x) = record { faults = wrong_faults x; kind = k.Faulty }
landed of o.Varying = record { faults = []; kind = known of None }
landed of (o.Constant v) = record { faults = []; kind = known of (Some v) }

-- an integer type or BYTE
abbrev pub number : Option Primitive → Option Primitive
number (Some p.Bool) = None
number (Some p.Byte) = Some p.Byte
number (Some p.Int16) = Some p.Int16
number (Some p.Int) = Some p.Int
number (Some p.Int32) = Some p.Int32
number (Some p.Int64) = Some p.Int64
number None = None

-- the primitive type that a type is under its names
abbrev pub base_of : OccType → Option Primitive
base_of of = as_primitive (unnamed of)

-- the wanted type, where its literals fit it; else INT
abbrev pub landed_or_int : OccType → Untyped → TypedValue → Finding
landed_or_int of f o.Unfit = landed int f.int
landed_or_int of f (o.Faulty x) = landed of (o.Faulty x)
landed_or_int of f o.Varying = landed of o.Varying
landed_or_int of f (o.Constant v) = landed of (o.Constant v)

abbrev pub settled_untyped : OccType → Untyped → Option Primitive → Finding
settled_untyped of f None = landed int f.int
settled_untyped of f (Some base) = landed_or_int of f (in_type f base)

-- what needs something faulty is faulty, whatever it comes to
abbrev pub faulty_if : Bool → Finding → Finding
faulty_if needs_faulty x = if needs_faulty then record { faults = x.faults; kind = k.Faulty } else x

-- an untyped operand takes the wanted type, if that is a number under its names which each of its literals fits; else INT
abbrev pub settled : OccType → Kind → Finding
settled of k.Faulty = silent
settled of (k.Untyped f) = faulty_if f.is_faulty (settled_untyped of f (number (base_of of)))
settled of (k.Known x) = record { faults = []; kind = k.Known x }
