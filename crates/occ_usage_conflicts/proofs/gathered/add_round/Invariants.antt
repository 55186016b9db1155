use Rattle.std.proofs.Common.{◌≡◌, drop}
use Rattle.occ_usage_conflicts.specs.Distinct.{gathered}
use Rattle.occ_usage_conflicts.specs.inside.Linking.{IsLinked}
use Rattle.occ_usage_conflicts.proofs.gathered.add_round.Given as goal

abbrev pub invariant-loop-index : goal.invariant-loop-index
invariant-loop-index l =
    (gathered l.line l.found (drop l.index l.uses) ≡ gathered l.line l.initial.found l.uses)
    × IsLinked l.links.heads.items l.links.before.items l.found
