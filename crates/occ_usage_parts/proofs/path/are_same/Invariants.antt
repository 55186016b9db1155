use Rattle.std.proofs.Common.{◌≡◌, take}
use Rattle.occ_usage_parts.proofs.path.are_same.Given as goal

abbrev pub invariant-loop-depth : goal.invariant-loop-depth
invariant-loop-depth l = take l.depth l.a ≡ take l.depth l.b
