use Rattle.std.proofs.Common.{◌≡◌, List, map}
use Rattle.std.specs.String.{string_bytes}
use Rattle.occ_editor.proofs.editor.Editor.look_again.Given as goal
use Rattle.occ_editor.specs.Rooms.{AllStand}
use Rattle.occ_editor.specs.inside.Shown.{AllTellSame}
use Rattle.occ_editor_edits.specs.declared.documents.Document.{Document}

abbrev pub invariant-loop-index : goal.invariant-loop-index
invariant-loop-index l =
    (l.self.documents ≡ l.fn.self.documents)
    × ((documents : List Document) → AllStand documents l.fn.self.rooms.items → AllStand documents l.self.rooms.items)
    × (map (λ room. string_bytes room.folder) l.self.rooms.items ≡ map (λ room. string_bytes room.folder) l.fn.self.rooms.items)
    × AllTellSame l.fn.self.rooms.items l.self.rooms.items
