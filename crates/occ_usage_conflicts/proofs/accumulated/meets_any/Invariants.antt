use Rattle.std.proofs.Common.{◌≡◌, drop}
use Rattle.occ_usage_conflicts.specs.inside.Spreading.{meets_in}
use Rattle.occ_usage_conflicts.proofs.accumulated.meets_any.Given as goal

abbrev pub invariant-loop-parts : goal.invariant-loop-parts
invariant-loop-parts l = meets_in (drop l.parts-index l.lists) l.part ≡ meets_in l.lists l.part
