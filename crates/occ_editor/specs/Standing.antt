-- The boards of an editor.
use Rattle.std.specs.Prelude.{◌≡◌, ℕ, true, List, Some}
use Rattle.std.specs.List.{slice_get}
use Rattle.occ_editor.specs.Rooms.{AllSettled, AllStand, HaveRooms, IsServed, is_of, is_unit}
use Rattle.occ_editor.specs.declared.editor.Editor.{Editor}
use Rattle.occ_editor.specs.declared.room.Room.{Room}
use Rattle.occ_editor_edits.specs.Documents.{text_in}

-- each board has its files; those that are open have the texts of the editor there, or are found again before it tells anything.
-- The folder of each open unit has one
pub record IsStanding (editor : Editor) : Type 0 where
  pub boards : AllStand editor.documents.all.items editor.rooms.items
  pub folders : HaveRooms editor.documents.all.items editor.rooms.items

-- each is up to date: the files that are open have the texts of the editor there, and what it tells is what the rules give
abbrev pub IsUpToDate : Editor → Type 0
IsUpToDate editor = AllSettled editor.documents.all.items editor.rooms.items

-- each open unit is on the board of its folder, with the text that it has in the editor, or it is told why not
abbrev pub AreServed : Editor → Type 0
AreServed editor = (path bytes : List ℕ) → text_in editor.documents.all.items path ≡ Some bytes → is_unit path ≡ true
    → (index : ℕ) × (room : Room) × (slice_get editor.rooms.items index ≡ Some room) × (is_of room path ≡ true) × IsServed room path bytes
