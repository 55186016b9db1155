-- The actuals of a call of a FUNCTION, of which all formals are VAL.
use Rattle.std.specs.Prelude.{◌==◌, Bool, true, false, List, [], ◌∷◌, length, map, if◌then◌else◌}
use Rattle.occ_base.specs.declared.fault.Fault.{Fault}
use Rattle.occ_typing_operands.specs.Operators.{all_faults}
use Rattle.occ_typing_operands.specs.Settling.{Finding}
use Rattle.occ_typing_tables.specs.Terms.{Judged, alone}
use Rattle.occ_typing_rules.specs.Numbering.{any_faulty, of_another_number}
use Rattle.occ_types.specs.declared.interface.Formal.{Formal}

-- what is reported of actuals beside their formals, and whether one of them is faulty then, or their number
pub record Matched : Type 0 where
  pub faults : List Fault
  pub is_faulty : Bool

-- each actual is of the type of its formal
abbrev pub each_for : List Formal → List Judged → List Finding
each_for [] xs = []
each_for (f ∷ fs) [] = []
each_for (f ∷ fs) (x ∷ xs) = x.under f.of ∷ each_for fs xs

abbrev pub as_many : List Finding → Matched
as_many ts = record { faults = all_faults ts; is_faulty = any_faulty ts }

-- of more or fewer actuals than formals no type is wanted
abbrev pub matched : List Formal → List Judged → Matched
matched formals xs =
    if length formals == length xs
    then as_many (each_for formals xs)
    else record { faults = of_another_number false (map alone xs); is_faulty = true }
