use Rattle.std.proofs.Common.{◌≡◌, map, take}
use Rattle.occ_check.proofs.job.are_names.Given as goal

abbrev pub invariant-loop-i : goal.invariant-loop-i
invariant-loop-i l = map (λ r. r.name) (take l.i l.reads) ≡ take l.i l.names
