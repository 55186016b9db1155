use Rattle.std.proofs.Common.{◌≡◌, drop}
use Rattle.occ_usage_conflicts.specs.ParallelRule.{clash_between}
use Rattle.occ_usage_conflicts.proofs.pairs.between.Given as goal

abbrev pub invariant-loop-a : goal.invariant-loop-a
invariant-loop-a l = clash_between l.rule l.least l.root (drop l.a-index l.some) l.others ≡ clash_between l.rule l.least l.root l.some l.others
