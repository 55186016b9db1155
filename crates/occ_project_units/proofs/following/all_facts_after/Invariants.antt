use Rattle.std.proofs.Common.{◌≡◌, map, take}
use Rattle.occ_project_units.specs.inside.Keeping.{facts_of}
use Rattle.occ_project_units.proofs.following.all_facts_after.Given as goal

abbrev pub invariant-loop-index : goal.invariant-loop-index
invariant-loop-index l = l.all.items ≡ map (λ file. facts_of l.project file.name) (take l.index l.project)
