use Rattle.std.proofs.Common.{◌≡◌, map, take}
use Rattle.occ_board.proofs.taking.units_now.Given as goal
use Rattle.occ_check.specs.Checks.{checked, used_unit}

abbrev pub invariant-loop-number : goal.invariant-loop-number
invariant-loop-number l = l.used.items ≡ map (used_unit l.graph l.user (checked l.graph)) (take l.number l.units)
