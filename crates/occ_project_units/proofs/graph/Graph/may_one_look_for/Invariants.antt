use Rattle.std.proofs.Common.{◌≡◌, List, ℕ, false, take, true}
use Rattle.std.specs.Option.{is_some}
use Rattle.occ_project.specs.Entries.{is_among}
use Rattle.occ_project.specs.Reads.{index}
use Rattle.occ_project_units.proofs.graph.Graph.may_one_look_for.Given as goal
use Rattle.occ_project_units.specs.Units.{read_names, used_units}

abbrev pub invariant-loop-unit : goal.invariant-loop-unit
invariant-loop-unit l = (unit : List ℕ) → is_among (take l.unit-index l.row) unit ≡ true → is_some (index unit l.self) ≡ true → (is_among (read_names l.self unit) l.name ≡ false) × (is_among (used_units l.self unit) l.name ≡ false)
