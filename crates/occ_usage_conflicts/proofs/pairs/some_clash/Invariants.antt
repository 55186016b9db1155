use Rattle.std.proofs.Common.{◌≡◌, drop}
use Rattle.occ_usage_conflicts.specs.ParallelRule.{some_clash}
use Rattle.occ_usage_conflicts.proofs.pairs.some_clash.Given as goal

abbrev pub invariant-loop-place : goal.invariant-loop-place
invariant-loop-place l = some_clash l.rule l.least l.root (drop l.place l.components) ≡ some_clash l.rule l.least l.root l.components
