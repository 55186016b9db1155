use Rattle.std.proofs.Common.{◌≡◌, map, take}
use Rattle.occ_board.proofs.present.are_reads_now.Given as goal
use Rattle.occ_project_units.specs.Project.{file_of}

abbrev pub invariant-loop-i : goal.invariant-loop-i
invariant-loop-i l = take l.i l.reads ≡ map (file_of l.project) (take l.i l.names)
