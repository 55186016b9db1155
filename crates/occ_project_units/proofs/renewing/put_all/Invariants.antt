use Rattle.std.proofs.Common.{length}
use Rattle.occ_project_units.proofs.Renewed.{IsPutting}
use Rattle.occ_project_units.proofs.renewing.put_all.Given as goal

abbrev pub invariant-loop-known : goal.invariant-loop-known
invariant-loop-known l = IsPutting l.project l.indices l.facts.items l.found

abbrev pub decreases-loop-known : goal.decreases-loop-known
decreases-loop-known l = length l.found
