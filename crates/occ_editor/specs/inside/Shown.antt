-- Of which files a room tells something else than before.
use Rattle.std.specs.Prelude.{◌≡◌, ◌↔◌, ℕ, Bool, true, false, List, [], ◌∷◌, IfSome, Option, Some, None, String, if◌then◌else◌}
use Rattle.std.specs.BTreeSet.{BTreeSet}
use Rattle.std.specs.List.{Contains, list_any}
use Rattle.std.specs.Str.{bytes_eq}
use Rattle.std.specs.String.{string_bytes}
use Rattle.std.specs.declared.alloc.Global.{Global}
use Rattle.occ_base.specs.declared.diag.Diag.{Diag}
use Rattle.occ_editor.specs.Publishing.{refusal_at, text_at, told_at}
use Rattle.occ_editor.specs.declared.room.Room.{Room}
use Rattle.occ_files.specs.declared.gathering.Text.{Text}
use Rattle.occ_messages.specs.Located.{Head}

-- the path is one of these
abbrev pub has_key : BTreeSet (String Global) → List ℕ → Bool
has_key paths path = list_any (λ key. bytes_eq (string_bytes key) path) paths.keys

-- each that was there is there
abbrev pub Grows : BTreeSet (String Global) → BTreeSet (String Global) → Type 0
Grows before now = (path : List ℕ) → has_key before path ≡ true → has_key now path ≡ true

-- the first file of a name
abbrev pub text_named : List Text → List ℕ → Option Text
text_named [] name = None
text_named (text ∷ texts) name = if bytes_eq text.name name then Some text else text_named texts name

-- the path of the file of a name is one of these, if there is one
abbrev pub HasFile : List Text → BTreeSet (String Global) → List ℕ → Type 0
HasFile texts paths name = IfSome (text_named texts name) (λ text. has_key paths (string_bytes text.path) ≡ true)

-- the diagnostic is in the file at a path
abbrev pub IsIn : List Text → List ℕ → Diag → Type 0
IsIn texts path diag = (text : Text) × (text_at texts path ≡ Some text) × (diag.file ≡ text.name)

-- the room tells nothing of the file at a path
pub record IsQuiet (room : Room) (path : List ℕ) : Type 0 where
  pub heads : (head : Head) → Contains (told_at room path) head → ⊥
  pub why : refusal_at room.refusals.items path ≡ None

-- the room tells the same of the file at a path
pub record RoomTellsSame (before now : Room) (path : List ℕ) : Type 0 where
  pub heads : (head : Head) → Contains (told_at before path) head ↔ Contains (told_at now path) head
  pub why : refusal_at before.refusals.items path ≡ refusal_at now.refusals.items path

-- each of the rooms does
abbrev pub AllAt : List Room → List Room → List ℕ → Type 0
AllAt [] [] path = Unit {0}
AllAt [] (n ∷ ns) path = ⊥
AllAt (b ∷ bs) [] path = ⊥
AllAt (b ∷ bs) (n ∷ ns) path = RoomTellsSame b n path × AllAt bs ns path

-- so it does of each file, or of each that is none of these
abbrev pub AllTellSame : List Room → List Room → Type 0
AllTellSame before now = (path : List ℕ) → AllAt before now path

abbrev pub AllTellBut : BTreeSet (String Global) → List Room → List Room → Type 0
AllTellBut paths before now = (path : List ℕ) → has_key paths path ≡ false → AllAt before now path
