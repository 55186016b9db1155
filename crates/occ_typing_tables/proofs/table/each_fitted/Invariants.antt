use Rattle.std.proofs.Common.{◌≡◌, ◌++◌, drop, map}
use Rattle.occ_typing_operands.specs.Operators.{all_faults, kinds}
use Rattle.occ_typing_tables.specs.Terms.{fitted_to}
use Rattle.occ_typing_tables.proofs.table.each_fitted.Given as goal

abbrev pub invariant-loop-one : goal.invariant-loop-one
invariant-loop-one l =
    (l.kinds ++ kinds (map (fitted_to l.of) (drop l.one-index l.settled)) ≡ kinds (map (fitted_to l.of) l.settled))
    × (l.faults ++ all_faults (map (fitted_to l.of) (drop l.one-index l.settled)) ≡ l.initial.faults ++ all_faults (map (fitted_to l.of) l.settled))
