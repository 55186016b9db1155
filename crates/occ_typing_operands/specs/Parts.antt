-- What a subscript selects: a component of an array, or a field of a record.
use Rattle.std.specs.Prelude.{ℕ, nat_le, ℤ, pos, negsuc, Bool, true, false, Option, Some, None, List, [], ◌∷◌, ◌++◌, if◌then◌else◌}
use Rattle.std.specs.Str.{bytes_eq}
use Rattle.occ_base.specs.declared.code.Code.TheVariants as code
use Rattle.occ_types.specs.Constant.{number_of}
use Rattle.occ_types.specs.Fits.{unnamed}
use Rattle.occ_types.specs.View.{as_array, is_unknown}
use Rattle.occ_types.specs.declared.types.Field.{Field}
use Rattle.occ_types.specs.declared.types.OccType.{OccType}
use Rattle.occ_types.specs.declared.value.Value.{Value}
use Rattle.occ_typing_operands.specs.declared.kind.Kind.{Kind}
use Rattle.occ_typing_operands.specs.declared.kind.Kind.TheVariants as k
use Rattle.occ_typing_operands.specs.Settling.{Finding, fault_of, int, known, settled, silent}
use Rattle.occ_typing_operands.specs.Wanting.{wanted}

-- no place of an array of so many components
abbrev pub is_outside : Option ℕ → ℤ → Bool
is_outside None (pos i) = false
is_outside (Some n) (pos i) = nat_le n i
is_outside count (negsuc i) = true

abbrev pub is_constant_outside : Option ℕ → Option Value → Bool
is_constant_outside count None = false
is_constant_outside count (Some v) = is_outside count (number_of v)

abbrev pub component_at : Option ℕ → OccType → Kind → Finding
component_at count of k.Faulty = silent
component_at count of (k.Untyped f) = silent
component_at count of (k.Known x) =
    if is_constant_outside count x.value then fault_of code.T6 else record { faults = []; kind = known of None }

-- the component at a place: an INT, which lies in the array if it is constant
abbrev pub component : Option ℕ → OccType → Kind → Finding
component count of index =
    let x = wanted int index in
    let y = component_at count of x.kind in
    record { faults = x.faults ++ y.faults; kind = y.kind }

-- a settled operand stands where none of its type may; a faulty one was reported
abbrev pub mismatched : Kind → Finding
mismatched k.Faulty = silent
mismatched (k.Untyped f) = silent
mismatched (k.Known x) = fault_of code.T2

abbrev pub not_subscripted : Kind → Finding
not_subscripted index =
    let x = settled int index in
    let y = mismatched x.kind in
    record { faults = x.faults ++ y.faults; kind = y.kind }

abbrev pub subscripted_array : Option (Option ℕ × OccType) → Kind → Finding
subscripted_array None index = not_subscripted index
subscripted_array (Some parts) index = component parts.0 parts.1 index

-- a subscript, which is no name of a field: of an array, perhaps under names, it selects a component, of all else nothing
abbrev pub subscripted : OccType → Kind → Finding
subscripted of index = subscripted_array (as_array (unnamed of)) index

-- the first field of the name
abbrev pub field_named : List ℕ → List Field → Option OccType
field_named name [] = None
field_named name (f ∷ fs) = if bytes_eq f.name name then Some f.of else field_named name fs

-- a field whose line has a fault is silent, and one that is not there is reported by its name
abbrev pub field_reported : List ℕ → Option OccType → Finding
field_reported name None = record { faults = (record { code = code.N1; name = Some name }) ∷ []; kind = k.Faulty }
field_reported name (Some of) = if is_unknown of then silent else record { faults = []; kind = known of None }

abbrev pub field : List Field → List ℕ → Finding
field fields name = field_reported name (field_named name fields)
