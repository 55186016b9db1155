use Rattle.std.proofs.Common.{◌≡◌, List, length, map}
use Rattle.std.specs.String.{string_bytes}
use Rattle.occ_editor.proofs.editor.Editor.tell_all.Given as goal
use Rattle.occ_editor_edits.specs.Documents.{ChangesAt, text_in}
use Rattle.occ_editor.specs.Rooms.{AllStand}
use Rattle.occ_editor_edits.specs.declared.documents.Document.{Document}
use Rattle.occ_editor.specs.inside.Followed.{HaveFollowed}
use Rattle.occ_editor.specs.inside.Shown.{AllTellSame}

abbrev pub invariant-loop-index : goal.invariant-loop-index
invariant-loop-index l =
    (l.self.documents ≡ l.fn.self.documents)
    × (length l.self.rooms.items ≡ length l.fn.self.rooms.items)
    × ((before : List Document) → ChangesAt before l.fn.self.documents.all.items l.path (text_in l.fn.self.documents.all.items l.path) → AllStand before l.fn.self.rooms.items → HaveFollowed before l.fn.self.documents.all.items l.index l.self.rooms.items)
    × (map (λ room. string_bytes room.folder) l.self.rooms.items ≡ map (λ room. string_bytes room.folder) l.fn.self.rooms.items)
    × AllTellSame l.fn.self.rooms.items l.self.rooms.items
