use Rattle.std.proofs.Common.{◌≡◌, drop, map, take}
use Rattle.occ_board.specs.Verdicts.{reads_verdict}
use Rattle.occ_board.proofs.judging.judge_reads.Given as goal
use Rattle.occ_project_units.specs.Project.{file_of}

abbrev pub invariant-loop-read : goal.invariant-loop-read
invariant-loop-read l =
    (reads_verdict l.project l.accepted (drop l.read-index l.reads) ≡ reads_verdict l.project l.accepted l.reads)
    × (take l.read-index l.reads ≡ map (λ read. file_of l.project read.name) (take l.read-index l.reads))
