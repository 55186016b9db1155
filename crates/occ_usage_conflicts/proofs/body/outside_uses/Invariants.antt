use Rattle.std.proofs.Common.{◌≡◌, length}
use Rattle.occ_usage_conflicts.specs.Bodies.{body_uses, outside}
use Rattle.occ_usage_conflicts.specs.inside.Linking.{IsLinked}
use Rattle.occ_usage_conflicts.proofs.Once.{distinct_onto}
use Rattle.occ_usage_conflicts.proofs.body.outside_uses.Given as goal

abbrev pub invariant-loop-found : goal.invariant-loop-found
invariant-loop-found l =
    (distinct_onto l.seen (outside l.number l.locals l.line l.uses) ≡ body_uses l.number l.locals l.line l.fn.uses)
    × IsLinked l.links.heads.items l.links.before.items l.seen

abbrev pub decreases-loop-found : goal.decreases-loop-found
decreases-loop-found l = length l.uses
