use Rattle.std.proofs.Common.{◌≡◌, drop}
use Rattle.occ_usage_parts.specs.Parts.{some_differ}
use Rattle.occ_usage_parts.proofs.comparing.somewhere_differ.Given as goal

abbrev pub invariant-loop-depth : goal.invariant-loop-depth
invariant-loop-depth l = some_differ (drop l.depth l.a) (drop l.depth l.b) ≡ some_differ l.a l.b
