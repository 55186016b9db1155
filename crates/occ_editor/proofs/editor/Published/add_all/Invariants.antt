use Rattle.std.proofs.Common.{◌≡◌, ◌⊎◌, ◌↔◌, length, map}
use Rattle.std.specs.List.{Contains}
use Rattle.occ_editor.proofs.editor.Published.add_all.Given as goal
use Rattle.occ_messages.specs.Located.{Head, head_of}

abbrev pub invariant-loop-message : goal.invariant-loop-message
invariant-loop-message l =
    (l.self.path ≡ l.fn.self.path)
    × (l.self.refusal ≡ l.fn.self.refusal)
    × ((head : Head) → (Contains (map head_of l.self.messages.items) head ⊎ Contains (map head_of l.messages.items) head) ↔ (Contains (map head_of l.fn.self.messages.items) head ⊎ Contains (map head_of l.fn.messages.items) head))

abbrev pub decreases-loop-message : goal.decreases-loop-message
decreases-loop-message l = length l.messages.items
