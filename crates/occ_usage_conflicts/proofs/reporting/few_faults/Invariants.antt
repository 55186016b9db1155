use Rattle.std.proofs.Common.{◌≡◌, ◌≤◌, ◌-◌, ◌++◌, length}
use Rattle.occ_usage_conflicts.specs.ParallelRule.{below, root_faults}
use Rattle.occ_usage_conflicts.proofs.reporting.few_faults.Given as goal

abbrev pub invariant-loop-root : goal.invariant-loop-root
invariant-loop-root l = (l.root ≤ length l.env) × (l.faults ≡ l.initial.faults ++ below l.root (root_faults l.line l.env l.components))

abbrev pub decreases-loop-root : goal.decreases-loop-root
decreases-loop-root l = length l.env - l.root
