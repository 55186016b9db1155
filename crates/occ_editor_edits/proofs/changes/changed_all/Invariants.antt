use Rattle.std.proofs.Common.{◌≡◌, drop}
use Rattle.occ_editor_edits.specs.Changes.{all_changed}
use Rattle.occ_editor_edits.proofs.changes.changed_all.Given as goal

abbrev pub invariant-loop-change : goal.invariant-loop-change
invariant-loop-change l = all_changed l.made.items (drop l.change-index l.changes) ≡ all_changed l.text l.changes
