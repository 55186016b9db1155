-- Assignments: what is reported of the targets, and then of the values for them.
use Rattle.std.specs.Prelude.{ℕ, ◌==◌, List, [], ◌∷◌, ◌++◌, Some, length, map, if◌then◌else◌}
use Rattle.occ_base.specs.declared.code.Code.TheVariants as code
use Rattle.occ_types.specs.Fits.{is_data}
use Rattle.occ_types.specs.declared.types.OccType.{OccType}
use Rattle.occ_typing_operands.specs.Operators.{all_faults}
use Rattle.occ_typing_operands.specs.Settling.{Finding, silent}
use Rattle.occ_base.specs.declared.fault.Fault.{Fault}
use Rattle.occ_typing_operands.specs.declared.kind.Kind.{Kind}
use Rattle.occ_typing_operands.specs.declared.kind.Kind.TheVariants as k
use Rattle.occ_typing_operands.specs.declared.kind.Known.{Known}
use Rattle.occ_scope.specs.declared.meaning.Access.{Access}
use Rattle.occ_scope.specs.declared.meaning.Access.TheVariants as access
use Rattle.occ_scope.specs.declared.meaning.Whole.{Whole}
use Rattle.occ_base.specs.Reporting.{nameless}
use Rattle.occ_typing_tables.specs.Terms.{Judged, alone}
use Rattle.occ_typing_rules.specs.Abbreviating.{holding}
use Rattle.occ_typing_rules.specs.Numbering.{any_faulty, of_another_number}

-- ---- targets

-- T3 is reported with the name of what the target is a part of
abbrev pub unwritten : List ℕ → Finding
unwritten root = record { faults = (record { code = code.T3; name = Some root }) ∷ []; kind = k.Faulty }

abbrev pub reached : Access → List ℕ → Known → Finding
reached access.Variable root x = record { faults = []; kind = k.Known x }
reached access.Formal root x = unwritten root
reached access.Value root x = unwritten root

-- nothing is written through a VAL name; a faulty target was reported
abbrev pub target : Whole → Kind → Finding
target whole k.Faulty = silent
target whole (k.Untyped f) = silent
target whole (k.Known x) = reached whole.access whole.root x

-- ---- values, each for its target

-- a target that holds no data is reported whatever the value is, of which nothing is asked
abbrev pub value_for : OccType → Judged → List Fault
value_for of x = if is_data of then (x.under of).faults else nameless code.T2 ∷ []

-- a faulty target hides what is wanted of its value
abbrev pub pair : Kind → Judged → List Fault
pair k.Faulty x = x.hidden.faults
pair (k.Untyped f) x = x.hidden.faults
pair (k.Known target) x = value_for target.of x

abbrev pub pairs : List Kind → List Judged → List Fault
pairs [] xs = []
pairs (target ∷ targets) [] = []
pairs (target ∷ targets) (x ∷ xs) = pair target x ++ pairs targets xs

-- another number of values than of targets: each target has to be data, and no type is wanted of the values
abbrev pub unpaired : List Kind → List Judged → List Fault
unpaired targets xs =
    let ts = map holding targets in
    all_faults ts ++ of_another_number (any_faulty ts) (map alone xs)

abbrev pub assigned : List Kind → List Judged → List Fault
assigned targets xs = if length targets == length xs then pairs targets xs else unpaired targets xs
