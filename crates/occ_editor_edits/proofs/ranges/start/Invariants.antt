use Rattle.std.proofs.Common.{◌≡◌, ◌+◌, drop}
use Rattle.occ_editor_edits.specs.Places.{start_of}
use Rattle.occ_editor_edits.proofs.ranges.start.Given as goal

abbrev pub invariant-loop-b : goal.invariant-loop-b
invariant-loop-b l = (l.count + start_of l.line (drop l.b-index l.text) ≡ start_of l.fn.line l.text) × (l.count ≡ l.b-index)
