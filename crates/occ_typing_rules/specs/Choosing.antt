-- Conditions, and the selector and the options of a CASE.
use Rattle.std.specs.Prelude.{ℤ, ◌++◌, List, [], ◌∷◌, Option, Some, None, if◌then◌else◌}
use Rattle.std.specs.BTreeSet.{BTreeSet, contains, insert_key}
use Rattle.std.specs.Ordering.{int_cmp}
use Rattle.occ_base.specs.declared.code.Code.TheVariants as code
use Rattle.occ_types.specs.Constant.{number_of}
use Rattle.occ_types.specs.View.{as_primitive}
use Rattle.occ_types.specs.declared.types.OccType.{OccType}
use Rattle.occ_types.specs.declared.value.Value.{Value}
use Rattle.occ_typing_operands.specs.Operators.{is_bool, is_there}
use Rattle.occ_typing_operands.specs.Settling.{Finding, fault_of, number, silent}
use Rattle.occ_base.specs.Reporting.{nameless}
use Rattle.occ_base.specs.declared.fault.Fault.{Fault}
use Rattle.occ_typing_operands.specs.declared.kind.Kind.{Kind}
use Rattle.occ_typing_operands.specs.declared.kind.Kind.TheVariants as k
use Rattle.occ_typing_tables.specs.Terms.{Judged, and_then}

-- ---- conditions: BOOL itself, and no type named over it

abbrev pub no_condition : Kind → List Fault
no_condition k.Faulty = []
no_condition (k.Untyped f) = []
no_condition (k.Known x) = if is_bool (as_primitive x.of) then [] else nameless code.T7 ∷ []

abbrev pub condition : Judged → List Fault
condition x = x.alone.faults ++ no_condition x.alone.kind

-- ---- selectors: an integer type or BYTE itself

abbrev pub selecting : Kind → Finding
selecting k.Faulty = silent
selecting (k.Untyped f) = silent
selecting (k.Known x) = if is_there (number (as_primitive x.of)) then record { faults = []; kind = k.Known x } else fault_of code.T7

abbrev pub selector : Judged → Finding
selector x = and_then x.alone selecting

-- ---- options, of the type of the selector

-- the faults of options, and the numbers of these and of those before them
pub record Chosen : Type 0 where
  pub faults : List Fault
  pub numbers : BTreeSet ℤ

abbrev pub with_number : BTreeSet ℤ → ℤ → BTreeSet ℤ
with_number before n = record { keys = insert_key int_cmp before.keys n }

abbrev pub repetition : BTreeSet ℤ → ℤ → List Fault
repetition before n = if contains int_cmp before n then nameless code.T8 ∷ [] else []

-- a constant, which none of the options before is: all are of one type, so its number reports it from them
abbrev pub option_of : BTreeSet ℤ → Option Value → Chosen
option_of before None = record { faults = nameless code.T5 ∷ []; numbers = before }
option_of before (Some v) = record { faults = repetition before (number_of v); numbers = with_number before (number_of v) }

abbrev pub chosen : BTreeSet ℤ → Kind → Chosen
chosen before k.Faulty = record { faults = []; numbers = before }
chosen before (k.Untyped f) = record { faults = []; numbers = before }
chosen before (k.Known x) = option_of before x.value

-- the type is asked first
abbrev pub option : OccType → BTreeSet ℤ → Judged → Chosen
option of before x =
    let y = x.under of in
    let z = chosen before y.kind in
    record { faults = y.faults ++ z.faults; numbers = z.numbers }

abbrev pub options : OccType → BTreeSet ℤ → List Judged → Chosen
options of before [] = record { faults = []; numbers = before }
options of before (x ∷ xs) =
    let y = option of before x in
    let z = options of y.numbers xs in
    record { faults = y.faults ++ z.faults; numbers = z.numbers }
