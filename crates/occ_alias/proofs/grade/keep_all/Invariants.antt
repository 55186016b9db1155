use Rattle.std.proofs.Common.{◌≡◌, ◌++◌, length}
use Rattle.occ_alias.specs.Grades.{all_unless_reported}
use Rattle.occ_alias.proofs.grade.keep_all.Given as goal

abbrev pub invariant-loop-check : goal.invariant-loop-check
invariant-loop-check l = l.kept ++ all_unless_reported l.errors.keys l.checks ≡ l.initial.kept ++ all_unless_reported l.errors.keys l.fn.checks

abbrev pub decreases-loop-check : goal.decreases-loop-check
decreases-loop-check l = length l.checks
