use Rattle.std.proofs.Common.{◌≡◌, drop, List}
use Rattle.std.specs.List.{list_any}
use Rattle.occ_usage_values.specs.declared.uses.Use.{Use}
use Rattle.occ_usage_conflicts.specs.ParallelRule.{clash_between}
use Rattle.occ_usage_conflicts.proofs.pairs.between_any.Given as goal

abbrev pub invariant-loop-other : goal.invariant-loop-other
invariant-loop-other l = list_any (λ (vs : List Use). clash_between l.rule l.least l.root l.some vs) (drop l.other-index l.others) ≡ list_any (λ (vs : List Use). clash_between l.rule l.least l.root l.some vs) l.others
