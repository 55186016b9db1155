use Rattle.std.proofs.Common.{◌≡◌, length, map}
use Rattle.std.specs.String.{string_bytes}
use Rattle.occ_editor.proofs.editor.Editor.renew_all.Given as goal
use Rattle.occ_editor.specs.Rooms.{AllStand}
use Rattle.occ_editor.specs.inside.Followed.{AreSettled}
use Rattle.occ_editor.specs.inside.Shown.{AllTellBut}

abbrev pub invariant-loop-index : goal.invariant-loop-index
invariant-loop-index g l =
    (l.self.documents ≡ l.fn.self.documents)
    × (length l.self.rooms.items ≡ length l.fn.self.rooms.items)
    × (AllStand l.fn.self.documents.all.items l.fn.self.rooms.items → AreSettled l.fn.self.documents.all.items l.index l.self.rooms.items)
    × (map (λ room. string_bytes room.folder) l.self.rooms.items ≡ map (λ room. string_bytes room.folder) l.fn.self.rooms.items)
    × (AllStand l.fn.self.documents.all.items l.fn.self.rooms.items → AllTellBut l.self.stale l.fn.self.rooms.items l.self.rooms.items)
