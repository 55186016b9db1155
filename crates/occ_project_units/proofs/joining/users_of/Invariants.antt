use Rattle.std.proofs.Common.{◌≡◌, map, take}
use Rattle.occ_project.specs.Entries.{is_among}
use Rattle.occ_project_units.proofs.joining.users_of.Given as goal

abbrev pub invariant-loop-index : goal.invariant-loop-index
invariant-loop-index l = l.marks ≡ map (λ facts. is_among facts.uses l.name) (take l.index l.all)
