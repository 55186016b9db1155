use Rattle.std.proofs.Common.{◌≡◌, ◌++◌, drop, map, option_map}
use Rattle.serde_json.specs.View.{items_view}
use Rattle.occ_editor_edits.specs.Messages.{changes_told, told}
use Rattle.occ_editor_edits.proofs.calls.changes_of.Given as goal

abbrev pub invariant-loop-item : goal.invariant-loop-item
invariant-loop-item l = option_map (λ rest. map told l.changes.items ++ rest) (changes_told (items_view (drop l.item-index l.items))) ≡ changes_told (items_view l.items)
