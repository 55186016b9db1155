use Rattle.std.proofs.Common.{◌<◌, ℕ}
use Rattle.occ_project_units.proofs.seeking.lookers_of.Given as goal
use Rattle.occ_project_units.specs.Along.{name_at}
use Rattle.occ_project_units.specs.inside.Keeping.{IsNoted}

abbrev pub invariant-loop-index : goal.invariant-loop-index
invariant-loop-index l = (p : ℕ) → p < l.index → IsNoted l.project (name_at l.project p) l.lookers
