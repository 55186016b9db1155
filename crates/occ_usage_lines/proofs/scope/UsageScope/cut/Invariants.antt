use Rattle.std.proofs.Common.{◌≡◌, length, take}
use Rattle.occ_usage_lines.proofs.scope.UsageScope.cut.Given as goal

abbrev pub invariant-loop-self : goal.invariant-loop-self
invariant-loop-self l = take l.depth l.self ≡ take l.depth l.initial.self

abbrev pub decreases-loop-self : goal.decreases-loop-self
decreases-loop-self l = length l.self
