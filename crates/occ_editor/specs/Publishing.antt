-- What is published of a file.
use Rattle.std.specs.Prelude.{◌≡◌, ◌⊎◌, ◌↔◌, ℕ, Bool, false, List, [], ◌∷◌, map, Option, Some, None, if◌then◌else◌}
use Rattle.std.specs.List.{Contains, list_any}
use Rattle.std.specs.Str.{bytes_eq}
use Rattle.std.specs.String.{string_bytes}
use Rattle.occ_base.specs.declared.code.Code.{Code}
use Rattle.occ_base.specs.declared.diag.Diag.{Diag}
use Rattle.occ_editor.specs.declared.editor.Published.{Published}
use Rattle.occ_editor.specs.declared.room.Room.{Room}
use Rattle.occ_files.specs.declared.gathering.Text.{Text}
use Rattle.occ_files.specs.declared.refusal.Refusal.{Refusal}
use Rattle.occ_files.specs.declared.refusal.Why.{Why}
use Rattle.occ_files_check.specs.Told.{diags_in, heads}
use Rattle.occ_messages.specs.Located.{Head, head_of}

-- the file at a path
abbrev pub text_at : List Text → List ℕ → Option Text
text_at [] path = None
text_at (text ∷ texts) path = if bytes_eq (string_bytes text.path) path then Some text else text_at texts path

-- the heads of the diagnostics that are in this file, if it is there
abbrev pub heads_of : List Text → List Diag → Option Text → List Head
heads_of texts told None = []
heads_of texts told (Some text) = heads texts (diags_in text.name told)

-- what a board tells of the file at a path
abbrev pub told_at : Room → List ℕ → List Head
told_at room path = heads_of room.texts.items room.told (text_at room.texts.items path)

-- one of the boards tells this of the file at the path
abbrev pub IsTold : List Room → List ℕ → Head → Type 0
IsTold [] path head = ⊥
IsTold (room ∷ rooms) path head = Contains (told_at room path) head ⊎ IsTold rooms path head

-- one of these heads has the code at the line
abbrev pub HasCode : (Head → Type 0) → ℕ → Code → Type 0
HasCode IsOne line code = (head : Head) × IsOne head × (head.line ≡ line) × (head.code ≡ code)

-- why a file at a path is not checked, if it is among these
abbrev pub refusal_at : List Refusal → List ℕ → Option Why
refusal_at [] path = None
refusal_at (refusal ∷ refusals) path = if bytes_eq (string_bytes refusal.path) path then Some refusal.why else refusal_at refusals path

-- the first reason, or else the second one
abbrev pub first_of : Option Why → Option Why → Option Why
first_of None other = other
first_of (Some why) other = Some why

-- why the first board that does not check the file does not
abbrev pub why_of : List Room → List ℕ → Option Why
why_of [] path = None
why_of (room ∷ rooms) path = first_of (refusal_at room.refusals.items path) (why_of rooms path)

-- what is published of a file is what the boards tell of it
pub record IsPublished (rooms : List Room) (p : Published) : Type 0 where
  pub told : (head : Head) → Contains (map head_of p.messages.items) head ↔ IsTold rooms (string_bytes p.path) head
  pub why : p.refusal ≡ why_of rooms (string_bytes p.path)

-- the boards tell the same of the file at a path
pub record TellsAt (before now : List Room) (path : List ℕ) : Type 0 where
  pub heads : (head : Head) → IsTold before path head ↔ IsTold now path head
  pub why : why_of before path ≡ why_of now path

-- so they do of each file
abbrev pub BoardsTellSame : List Room → List Room → Type 0
BoardsTellSame before now = (path : List ℕ) → TellsAt before now path

-- something is published of the file at a path
abbrev pub is_published : List Published → List ℕ → Bool
is_published all path = list_any (λ p. bytes_eq (string_bytes p.path) path) all

-- of each other file the boards tell what they told before
abbrev pub AreWhole : List Room → List Room → List Published → Type 0
AreWhole before now all = (path : List ℕ) → is_published all path ≡ false → TellsAt before now path
