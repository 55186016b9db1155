use Rattle.std.proofs.Common.{◌≡◌, map, take}
use Rattle.occ_board.proofs.present.are_units_now.Given as goal
use Rattle.occ_check.specs.Checks.{checked, used_unit}

abbrev pub invariant-loop-i : goal.invariant-loop-i
invariant-loop-i l = take l.i l.used ≡ map (used_unit l.graph l.user (checked l.graph)) (take l.i l.names)
