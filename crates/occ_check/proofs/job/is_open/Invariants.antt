use Rattle.std.proofs.Common.{◌≡◌, drop}
use Rattle.std.specs.Option.{is_some}
use Rattle.occ_check.proofs.job.is_open.Given as goal
use Rattle.occ_project.specs.Reads.{open_lines}

abbrev pub invariant-loop-read : goal.invariant-loop-read
invariant-loop-read l = is_some (open_lines (drop l.read-index l.reads) l.name) ≡ is_some (open_lines l.reads l.name)
