-- How far the rooms of an editor follow.
use Rattle.std.specs.Prelude.{◌≡◌, ◌<◌, ◌≤◌, ℕ, List, Some}
use Rattle.std.specs.List.{slice_get}
use Rattle.occ_editor.specs.Rooms.{IsSettled, Stands}
use Rattle.occ_editor_edits.specs.declared.documents.Document.{Document}
use Rattle.occ_editor.specs.declared.room.Room.{Room}

-- so many of them have followed what changed
pub record HaveFollowed (before now : List Document) (count : ℕ) (rooms : List Room) : Type 0 where
  pub done : (index : ℕ) (room : Room) → index < count → slice_get rooms index ≡ Some room → Stands now room
  pub left : (index : ℕ) (room : Room) → count ≤ index → slice_get rooms index ≡ Some room → Stands before room

-- so many of them are up to date
pub record AreSettled (documents : List Document) (count : ℕ) (rooms : List Room) : Type 0 where
  pub done : (index : ℕ) (room : Room) → index < count → slice_get rooms index ≡ Some room → IsSettled documents room
  pub left : (index : ℕ) (room : Room) → count ≤ index → slice_get rooms index ≡ Some room → Stands documents room
