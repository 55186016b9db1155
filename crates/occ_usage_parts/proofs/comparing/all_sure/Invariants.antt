use Rattle.std.proofs.Common.{◌≡◌, drop}
use Rattle.occ_usage_parts.specs.Parts.{all_sure}
use Rattle.occ_usage_parts.proofs.comparing.all_sure.Given as goal

abbrev pub invariant-loop-depth : goal.invariant-loop-depth
invariant-loop-depth l = all_sure (drop l.depth l.a) (drop l.depth l.b) ≡ all_sure l.a l.b
