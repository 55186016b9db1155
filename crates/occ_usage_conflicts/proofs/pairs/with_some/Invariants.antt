use Rattle.std.proofs.Common.{◌≡◌, drop}
use Rattle.occ_usage_conflicts.specs.ParallelRule.{uses_clash}
use Rattle.occ_usage_conflicts.proofs.pairs.with_some.Given as goal

abbrev pub invariant-loop-b : goal.invariant-loop-b
invariant-loop-b l = uses_clash l.rule l.least l.root l.a (drop l.b-index l.others) ≡ uses_clash l.rule l.least l.root l.a l.others
