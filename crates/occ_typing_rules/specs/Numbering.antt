-- Values of which there are more or fewer than places for them.
use Rattle.std.specs.Prelude.{Bool, ◌||◌, List, [], ◌∷◌, ◌++◌, if◌then◌else◌}
use Rattle.std.specs.List.{list_any}
use Rattle.occ_typing_operands.specs.Operators.{all_faults, is_faulty, kinds}
use Rattle.occ_typing_operands.specs.Settling.{Finding}
use Rattle.occ_base.specs.declared.fault.Fault.{Fault}
use Rattle.occ_base.specs.declared.code.Code.TheVariants as code
use Rattle.occ_base.specs.Reporting.{nameless}

abbrev pub any_faulty : List Finding → Bool
any_faulty xs = list_any is_faulty (kinds xs)

abbrev pub number_faults : Bool → List Fault
number_faults is_silent = if is_silent then [] else nameless code.T4 ∷ []

-- no type is wanted of these values; their number is reported where neither one of them nor what they are for is faulty
abbrev pub of_another_number : Bool → List Finding → List Fault
of_another_number place_is_faulty xs = all_faults xs ++ number_faults (place_is_faulty || any_faulty xs)
