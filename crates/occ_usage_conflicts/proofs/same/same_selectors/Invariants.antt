use Rattle.std.proofs.Common.{◌≡◌, drop}
use Rattle.occ_usage_conflicts.specs.Distinct.{same_selectors}
use Rattle.occ_usage_conflicts.proofs.same.same_selectors.Given as goal

abbrev pub invariant-loop-depth : goal.invariant-loop-depth
invariant-loop-depth l = same_selectors (drop l.depth l.a) (drop l.depth l.b) ≡ same_selectors l.a l.b
