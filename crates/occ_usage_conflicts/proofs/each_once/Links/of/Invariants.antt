use Rattle.std.proofs.Common.{take}
use Rattle.occ_usage_conflicts.specs.inside.Linking.{IsLinked}
use Rattle.occ_usage_conflicts.proofs.each_once.Links.of.Given as goal

abbrev pub invariant-loop-place : goal.invariant-loop-place
invariant-loop-place l = IsLinked l.links.heads.items l.links.before.items (take l.place l.found)
