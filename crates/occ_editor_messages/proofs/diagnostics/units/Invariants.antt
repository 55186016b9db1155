use Rattle.std.proofs.Common.{◌≡◌, ◌+◌, ◌*◌, ◌≤◌, drop}
use Rattle.occ_editor_messages.proofs.diagnostics.units.Given as goal
use Rattle.occ_editor_messages.specs.Sent.{units_in}

abbrev pub invariant-loop-b : goal.invariant-loop-b
invariant-loop-b l = (l.units + units_in (drop l.b-index l.source) ≡ units_in l.source) × (l.units ≤ 2 * l.b-index)
