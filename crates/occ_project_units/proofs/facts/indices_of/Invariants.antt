use Rattle.std.proofs.Common.{◌≡◌, take}
use Rattle.occ_project_units.specs.Indices.{indices_of}
use Rattle.occ_project_units.proofs.facts.indices_of.Given as goal

abbrev pub invariant-loop-i : goal.invariant-loop-i
invariant-loop-i l = l.indices ≡ indices_of l.project (take l.i l.names)
