use Rattle.occ_project_units.specs.inside.Keeping.{DoUseAsBefore}
use Rattle.occ_project_units.proofs.renewing.first_other.Given as goal

abbrev pub invariant-loop-i : goal.invariant-loop-i
invariant-loop-i l = DoUseAsBefore l.facts l.indices l.found l.from l.i
