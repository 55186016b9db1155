use Rattle.std.proofs.Common.{◌≡◌, ℕ, take, true}
use Rattle.occ_project_graph.specs.Graph.{is_among}
use Rattle.occ_project_units.proofs.seeking.note_among.Given as goal
use Rattle.occ_project_units.specs.Along.{name_at}
use Rattle.occ_project_units.specs.inside.Keeping.{IsMore, IsNoted}

abbrev pub invariant-loop-index : goal.invariant-loop-index
invariant-loop-index l =
    IsMore l.fn.lookers l.lookers
    × ((p : ℕ) → is_among (take l.index-index l.indices) p ≡ true → IsNoted l.project (name_at l.project p) l.lookers)
