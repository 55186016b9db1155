use Rattle.std.proofs.Common.{◌≡◌, map, take}
use Rattle.occ_project_units.specs.Project.{file_of}
use Rattle.occ_project_units.proofs.project.Project.reads_near.Given as goal

abbrev pub invariant-loop-name : goal.invariant-loop-name
invariant-loop-name l = l.reads.items ≡ map (file_of l.self) (take l.name-index l.names)
