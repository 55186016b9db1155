use Rattle.std.proofs.Common.{◌≡◌, ◌++◌}
use Rattle.occ_usage_conflicts.specs.ParallelRule.{below}
use Rattle.occ_usage_conflicts.specs.inside.Accumulating.{faults_in}
use Rattle.occ_usage_conflicts.proofs.reporting.report.Given as goal

abbrev pub invariant-loop-root : goal.invariant-loop-root
invariant-loop-root l = l.faults ≡ l.initial.faults ++ below l.root (faults_in l.line l.env l.table)
