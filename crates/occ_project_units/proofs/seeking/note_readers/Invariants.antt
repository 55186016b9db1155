use Rattle.std.proofs.Common.{◌≡◌, ◌<◌, ℕ, true}
use Rattle.occ_project.specs.Entries.{is_among}
use Rattle.occ_project_units.proofs.seeking.note_readers.Given as goal
use Rattle.occ_project_units.specs.Along.{name_at}
use Rattle.occ_project_units.specs.Units.{read_names}
use Rattle.occ_project_units.specs.inside.Keeping.{IsMore, IsNoted}

abbrev pub invariant-loop-index : goal.invariant-loop-index
invariant-loop-index l =
    IsMore l.fn.lookers l.lookers
    × ((p : ℕ) → p < l.index → is_among (read_names l.project (name_at l.project p)) l.edited ≡ true → IsNoted l.project (name_at l.project p) l.lookers)
