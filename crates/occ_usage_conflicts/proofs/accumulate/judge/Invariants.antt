use Rattle.std.proofs.Common.{◌≡◌, drop}
use Rattle.occ_usage_conflicts.specs.inside.Accumulating.{judged_by}
use Rattle.occ_usage_conflicts.proofs.accumulate.judge.Given as goal

abbrev pub invariant-loop-one : goal.invariant-loop-one
invariant-loop-one l = judged_by l.table.items (drop l.one-index l.component) ≡ judged_by l.initial.table.items l.component
