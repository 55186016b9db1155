use Rattle.std.proofs.Common.{◌≡◌, take}
use Rattle.occ_project_units.proofs.following.are_same_names.Given as goal

abbrev pub invariant-loop-i : goal.invariant-loop-i
invariant-loop-i l = take l.i l.a ≡ take l.i l.b
