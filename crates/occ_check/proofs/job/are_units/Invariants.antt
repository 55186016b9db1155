use Rattle.std.proofs.Common.{◌≡◌, map, take}
use Rattle.occ_check.proofs.job.are_units.Given as goal

abbrev pub invariant-loop-i : goal.invariant-loop-i
invariant-loop-i l = map (λ u. u.unit) (take l.i l.used) ≡ take l.i l.names
