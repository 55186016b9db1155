use Rattle.std.proofs.Common.{◌≡◌, ◌+◌, drop}
use Rattle.occ_editor_edits.specs.Places.{column_of}
use Rattle.occ_editor_edits.proofs.ranges.column.Given as goal

abbrev pub invariant-loop-b : goal.invariant-loop-b
invariant-loop-b l = (l.count + column_of l.unit (drop l.b-index l.text) ≡ column_of l.fn.unit l.text) × (l.count ≡ l.b-index)
