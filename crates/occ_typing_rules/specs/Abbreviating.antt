-- VAL abbreviations: what is reported of the value, and what is then known of the name.
use Rattle.std.specs.Prelude.{[], if◌then◌else◌}
use Rattle.occ_typing_operands.specs.Parts.{mismatched}
use Rattle.occ_base.specs.declared.code.Code.TheVariants as code
use Rattle.occ_types.specs.Fits.{is_data}
use Rattle.occ_types.specs.declared.types.OccType.{OccType}
use Rattle.occ_typing_operands.specs.Settling.{Finding, fault_of, known, silent}
use Rattle.occ_typing_operands.specs.declared.kind.Kind.{Kind}
use Rattle.occ_typing_operands.specs.declared.kind.Kind.TheVariants as k
use Rattle.occ_typing_tables.specs.Merging.{filled}
use Rattle.occ_typing_tables.specs.Terms.{Judged, and_then}

-- ---- without a type: the value is data

abbrev pub holding : Kind → Finding
holding k.Faulty = silent
holding (k.Untyped f) = silent
holding (k.Known x) = if is_data x.of then record { faults = []; kind = k.Known x } else fault_of code.T2

abbrev pub abbreviated : Judged → Finding
abbreviated x = and_then x.alone holding

-- ---- with a type

-- the name is of this type, and its numbers of components that are not known are those of the value
abbrev pub as_type : OccType → Kind → Finding
as_type of k.Faulty = silent
as_type of (k.Untyped f) = silent
as_type of (k.Known x) = record { faults = []; kind = known (filled of x.of) x.value }

-- a value for what is no data is judged by itself
abbrev pub for_no_data : Judged → Finding
for_no_data x = and_then x.alone mismatched

-- the value is of the type, and the type is one of data
abbrev pub abbreviated_as : OccType → Judged → Finding
abbreviated_as of x = if is_data of then and_then (x.under of) (as_type of) else for_no_data x
