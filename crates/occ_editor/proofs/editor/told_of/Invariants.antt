use Rattle.std.proofs.Common.{◌≡◌, ◌⊎◌, ◌↔◌, drop, map}
use Rattle.std.specs.List.{Contains}
use Rattle.std.specs.String.{string_bytes}
use Rattle.occ_editor.proofs.editor.told_of.Given as goal
use Rattle.occ_editor.specs.Publishing.{IsTold, why_of}
use Rattle.occ_messages.specs.Located.{Head, head_of}

abbrev pub invariant-loop-room : goal.invariant-loop-room
invariant-loop-room l =
    (string_bytes l.published.path ≡ l.path)
    × (l.published.refusal ≡ why_of l.rooms l.path)
    × ((head : Head) → (Contains (map head_of l.published.messages.items) head ⊎ IsTold (drop l.room-index l.rooms) l.path head) ↔ IsTold l.rooms l.path head)
