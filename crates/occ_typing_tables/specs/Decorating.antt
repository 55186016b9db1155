-- Tables, characters and strings with their type after them.
use Rattle.std.specs.Prelude.{ℕ, ◌==◌, Option, Some, None, List, [], ◌∷◌, length, map, true, if◌then◌else◌}
use Rattle.occ_base.specs.declared.code.Code.TheVariants as code
use Rattle.occ_types.specs.Fits.{alike, counts_fit, unnamed}
use Rattle.occ_types.specs.View.{as_array, fields_in, is_unknown}
use Rattle.occ_types.specs.declared.types.Field.{Field}
use Rattle.occ_types.specs.declared.types.OccType.{OccType}
use Rattle.occ_types.specs.declared.value.Value.{Value}
use Rattle.occ_typing_operands.specs.Operators.{kinds}
use Rattle.occ_typing_operands.specs.Parts.{mismatched}
use Rattle.occ_typing_operands.specs.Settling.{Finding, fault_of, known}
use Rattle.occ_typing_operands.specs.declared.kind.Kind.TheVariants as k
use Rattle.occ_typing_tables.specs.Terms.{Judged, alone, and_then, each_under, table_alone, with_items}

-- ---- a character or a string, which is of a type of its own, as a value of a type that is this one but for names
abbrev pub decorated : OccType → OccType → Option Value → Finding
decorated to own value = if alike to own then record { faults = []; kind = known to value } else fault_of code.T2

-- ---- tables

abbrev pub whole : OccType → Finding
whole to = record { faults = []; kind = known to None }

abbrev pub of_count : OccType → Option ℕ → ℕ → Finding
of_count to n items = if counts_fit n (Some items) then whole to else fault_of code.T2

abbrev pub of_array : OccType → Option ℕ → OccType → List Judged → Finding
of_array to n of xs = let ys = each_under true of xs in with_items ys (of_count to n (length (kinds ys)))

-- of a field whose line has a fault it is not known what it holds, and the table is faulty
abbrev pub field_value : Field → Judged → Finding
field_value f x = if is_unknown f.of then record { faults = x.hidden.faults; kind = k.Faulty } else x.under f.of

abbrev pub field_values : List Field → List Judged → List Finding
field_values [] xs = []
field_values (f ∷ fs) [] = []
field_values (f ∷ fs) (x ∷ xs) = field_value f x ∷ field_values fs xs

-- a table of a type that is neither: no type is wanted of it, and it is not of this one
abbrev pub misused : List Judged → Finding
misused xs = and_then (table_alone xs) mismatched

-- the values of the fields, in their order
abbrev pub of_values : OccType → List Field → List Judged → Finding
of_values to fs xs = with_items (field_values fs xs) (whole to)

-- more or fewer values than fields: no type is wanted of them
abbrev pub of_another_number : List Judged → Finding
of_another_number xs = with_items (map alone xs) (fault_of code.T4)

abbrev pub of_record : OccType → List Field → List Judged → Finding
of_record to fs xs =
    if length fs == length xs then of_values to fs xs else of_another_number xs

abbrev pub of_fields : OccType → Option (List Field) → List Judged → Finding
of_fields to None xs = misused xs
of_fields to (Some fs) xs = of_record to fs xs

abbrev pub of_components : OccType → Option (Option ℕ × OccType) → List Judged → Finding
of_components to None xs = of_fields to (fields_in (unnamed to)) xs
of_components to (Some parts) xs = of_array to parts.0 parts.1 xs

-- a table of a type that is an array or a record under its names
abbrev pub decorated_table : OccType → List Judged → Finding
decorated_table to xs = of_components to (as_array (unnamed to)) xs
