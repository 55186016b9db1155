use Rattle.std.proofs.Common.{◌≡◌, map, take}
use Rattle.occ_project_units.specs.Along.{name_at}
use Rattle.occ_project_units.specs.inside.Keeping.{facts_of}
use Rattle.occ_project_units.proofs.renewing.facts_of_all.Given as goal

abbrev pub invariant-loop-index : goal.invariant-loop-index
invariant-loop-index l = l.found ≡ map (λ index. facts_of l.project (name_at l.project index)) (take l.index-index l.indices)
