-- The files of a folder on a board of their own, and what is told of them, as the open files of the editor want it.
use Rattle.std.specs.Prelude.{◌≡◌, ◌⊎◌, ◌==◌, ◌&&◌, ℕ, Bool, false, true, codes, List, [], ◌∷◌, Option, Some, None, if◌then◌else◌, length}
use Rattle.std.specs.List.{ends_with, list_any, slice_get}
use Rattle.std.specs.Str.{bytes_eq}
use Rattle.std.specs.String.{string_bytes}
use Rattle.occ_board.specs.Machine.{State, files_of}
use Rattle.occ_editor_edits.specs.Documents.{text_in}
use Rattle.occ_editor.specs.Placing.{source_on, told_of}
use Rattle.occ_editor.specs.Publishing.{refusal_at, text_at}
use Rattle.occ_editor_edits.specs.declared.documents.Document.{Document}
use Rattle.occ_editor.specs.declared.room.Room.{Room}
use Rattle.occ_files.specs.Gathering.{AreNamed, are_apart, is_met}
use Rattle.occ_files.specs.Paths.{Known, folder_of, name_of}
use Rattle.occ_files.specs.Refusals.{IsRight}
use Rattle.occ_files.specs.declared.gathering.Text.{Text}
use Rattle.occ_files.specs.declared.refusal.Refusal.{Refusal}
use Rattle.occ_files.specs.declared.refusal.Why.{Why}
use Rattle.occ_forms.specs.Prepared.{Prepared}

-- the text of the file of that name
abbrev pub source_in : List Text → List ℕ → Option Prepared
source_in [] name = None
source_in (text ∷ texts) name = if bytes_eq text.name name then Some text.source else source_in texts name

-- the text of the file at a path
abbrev pub source_at : List Text → List ℕ → Option Prepared
source_at [] path = None
source_at (text ∷ texts) path = if bytes_eq (string_bytes text.path) path then Some text.source else source_at texts path

-- the board has these files with their texts, and no others
abbrev pub HasTexts : State → List Text → Type 0
HasTexts board texts = (name : List ℕ) → source_on board name ≡ source_in texts name

-- a file that is open in the editor has the text that it has there
abbrev pub AreOpen : List Document → List Text → Type 0
AreOpen documents texts = (path bytes : List ℕ) (source : Prepared) → text_in documents path ≡ Some bytes → source_at texts path ≡ Some source → source.text ≡ bytes

-- a file is a unit by its name
abbrev pub is_unit : List ℕ → Bool
is_unit path = ends_with ◌==◌ path (codes ".occ")

-- a unit is of the room for its folder
abbrev pub is_of : Room → List ℕ → Bool
is_of room path = is_unit path && bytes_eq (string_bytes room.folder) (folder_of path)

-- the open units of its folder are among its files, or it is told why one is not
abbrev pub MeetsOpen : List Document → Room → Type 0
MeetsOpen documents room = (path bytes : List ℕ) → text_in documents path ≡ Some bytes → is_of room path ≡ true → is_met room.texts.items room.refusals.items path ≡ true

-- of an open file that is not checked beside these, the reason is right
abbrev pub RefusesRightly : List Document → List Text → List Refusal → Type 0
RefusesRightly documents texts refusals = (path bytes : List ℕ) (why : Why) → text_in documents path ≡ Some bytes → refusal_at refusals path ≡ Some why → IsRight (Some (Some bytes)) texts path why

-- the board of a room has its files, of which no two have one name. If they need not be found again, open files have their
-- texts there, open units of the folder are among them or rightly refused, and if none of them has changed since, what was told
-- last is what the rules give for them
pub record Stands (documents : List Document) (room : Room) : Type 0 where
  pub apart : are_apart room.texts.items ≡ true
  pub named : AreNamed room.texts.items
  pub has : HasTexts room.board room.texts.items
  pub opened : room.is_loose ≡ false → AreOpen documents room.texts.items
  pub met : room.is_loose ≡ false → MeetsOpen documents room
  pub right : room.is_loose ≡ false → RefusesRightly documents room.texts.items room.refusals.items
  pub told : room.is_loose ≡ false → room.is_changed ≡ false → room.told ≡ told_of (files_of room.board)

-- so it is up to date
pub record IsSettled (documents : List Document) (room : Room) : Type 0 where
  pub stands : Stands documents room
  pub found : room.is_loose ≡ false
  pub same : room.is_changed ≡ false

-- what is known of a file: its text in the editor, if it is open there
abbrev pub over : Option (List ℕ) → Option (Option (List ℕ)) → Option (Option (List ℕ))
over (Some text) file = Some (Some text)
over None file = file

-- a read gives of each open file the text that it has in the editor
abbrev pub Knows : Known → List Document → Type 0
Knows known documents = (path bytes : List ℕ) → text_in documents path ≡ Some bytes → known path ≡ Some (Some bytes)

-- each room stands, or each is up to date
abbrev pub AllStand : List Document → List Room → Type 0
AllStand documents rooms = (index : ℕ) (room : Room) → slice_get rooms index ≡ Some room → Stands documents room

abbrev pub AllSettled : List Document → List Room → Type 0
AllSettled documents rooms = (index : ℕ) (room : Room) → slice_get rooms index ≡ Some room → IsSettled documents room

-- one of the rooms is for the folder
abbrev pub has_folder : List Room → List ℕ → Bool
has_folder rooms folder = list_any (λ room. bytes_eq (string_bytes room.folder) folder) rooms

-- the folder of each open unit has a room
abbrev pub HaveRooms : List Document → List Room → Type 0
HaveRooms documents rooms = (path bytes : List ℕ) → text_in documents path ≡ Some bytes → is_unit path ≡ true → has_folder rooms (folder_of path) ≡ true

-- that of each has, but perhaps that of the file at the path
abbrev pub HaveOthers : List ℕ → List Document → List Room → Type 0
HaveOthers path documents rooms = (other bytes : List ℕ) → text_in documents other ≡ Some bytes → is_unit other ≡ true → bytes_eq path other ≡ false → has_folder rooms (folder_of other) ≡ true

-- a room has no file
abbrev pub is_vacant : Room → Bool
is_vacant room = (length room.texts.items == 0) && (length room.refusals.items == 0)

-- the board of a room has the file at a path by its name with these bytes; or it is told why not, and that is right
abbrev pub IsServed : Room → List ℕ → List ℕ → Type 0
IsServed room path bytes =
    ((text : Text) × (text_at room.texts.items path ≡ Some text) × (text.name ≡ name_of path) × (source_on room.board text.name ≡ Some text.source) × (text.source.text ≡ bytes))
    ⊎ ((why : Why) × (refusal_at room.refusals.items path ≡ Some why) × IsRight (Some (Some bytes)) room.texts.items path why)
