use Rattle.std.proofs.Common.{◌≡◌, ◌<◌, ℕ, false}
use Rattle.occ_project.specs.Entries.{is_among}
use Rattle.occ_project_units.proofs.graph.Graph.may_all_look_for.Given as goal
use Rattle.occ_project_units.specs.Along.{name_at}
use Rattle.occ_project_units.specs.Units.{read_names, used_units}

abbrev pub invariant-loop-index : goal.invariant-loop-index
invariant-loop-index l =
    ((p : ℕ) → p < l.index → is_among (read_names l.self (name_at l.self p)) l.name ≡ false)
    × ((p : ℕ) → p < l.index → is_among (used_units l.self (name_at l.self p)) l.name ≡ false)
