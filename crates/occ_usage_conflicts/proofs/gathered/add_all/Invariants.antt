use Rattle.std.proofs.Common.{◌≡◌, drop}
use Rattle.occ_usage_conflicts.specs.Distinct.{gathered}
use Rattle.occ_usage_conflicts.specs.inside.Linking.{IsLinked}
use Rattle.occ_usage_conflicts.proofs.gathered.add_all.Given as goal

abbrev pub invariant-loop-one : goal.invariant-loop-one
invariant-loop-one l =
    (gathered l.line l.found (drop l.one-index l.uses) ≡ gathered l.line l.initial.found l.uses)
    × IsLinked l.links.heads.items l.links.before.items l.found
