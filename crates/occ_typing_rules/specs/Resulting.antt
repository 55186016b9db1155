-- The results of a FUNCTION, and the types that results and fields may have.
use Rattle.std.specs.Prelude.{ℕ, ◌==◌, false, List, [], ◌∷◌, ◌++◌, None, length, map, if◌then◌else◌}
use Rattle.occ_base.specs.declared.code.Code.TheVariants as code
use Rattle.occ_types.specs.Fits.{is_data}
use Rattle.occ_types.specs.declared.types.OccType.{OccType}
use Rattle.occ_base.specs.Reporting.{nameless}
use Rattle.occ_base.specs.declared.fault.Fault.{Fault}
use Rattle.occ_scope.specs.Lookup.{Found, good}
use Rattle.occ_typing_operands.specs.Operators.{all_faults}
use Rattle.occ_typing_tables.specs.Terms.{Judged, alone, hidden_faults}
use Rattle.occ_typing_rules.specs.Numbering.{of_another_number}

-- a type of data: of no channel, no timer and no array of them
abbrev pub of_data : OccType → Found OccType
of_data of = if is_data of then good of else record { faults = nameless code.T2 ∷ []; found = None }

-- each result is of the type at its place
abbrev pub each_under : List OccType → List Judged → List Fault
each_under [] xs = []
each_under (of ∷ types) [] = []
each_under (of ∷ types) (x ∷ xs) = (x.under of).faults ++ each_under types xs

-- of more or fewer results than types no type is wanted
abbrev pub results : List OccType → List Judged → List Fault
results types xs = if length types == length xs then each_under types xs else of_another_number false (map alone xs)

-- results of a head with a fault, which wants so many: it hides what is wanted of each, but of more or fewer no type is
abbrev pub hidden_results : ℕ → List Judged → List Fault
hidden_results n xs = if n == length xs then hidden_faults xs else all_faults (map alone xs)
