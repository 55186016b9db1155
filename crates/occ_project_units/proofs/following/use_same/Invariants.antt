use Rattle.std.proofs.Common.{◌≡◌, map, take}
use Rattle.occ_project_units.proofs.following.use_same.Given as goal

abbrev pub invariant-loop-i : goal.invariant-loop-i
invariant-loop-i l = map (λ facts. facts.uses) (take l.i l.a) ≡ map (λ facts. facts.uses) (take l.i l.b)
