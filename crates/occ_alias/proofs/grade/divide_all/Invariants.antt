use Rattle.std.proofs.Common.{◌≡◌, ◌++◌, length}
use Rattle.occ_alias.specs.Grades.{checks_of, with_errors}
use Rattle.occ_alias.proofs.grade.divide_all.Given as goal

abbrev pub invariant-loop-run : goal.invariant-loop-run
invariant-loop-run l =
    (with_errors l.errors.keys l.found ≡ with_errors l.initial.errors.keys l.fn.found)
    × (l.checks ++ checks_of l.found ≡ l.initial.checks ++ checks_of l.fn.found)

abbrev pub decreases-loop-run : goal.decreases-loop-run
decreases-loop-run l = length l.found
