-- Where the file at a path stands among texts.
use Rattle.std.specs.Prelude.{◌≡◌, ◌+◌, ℕ, true, List, [], ◌∷◌, Option, Some, None, if◌then◌else◌, String, map}
use Rattle.std.specs.Str.{bytes_eq}
use Rattle.std.specs.declared.alloc.Global.{Global}
use Rattle.std.specs.List.{All, filter}
use Rattle.std.specs.String.{string_bytes}
use Rattle.occ_board.specs.Machine.{State}
use Rattle.occ_editor.specs.Rooms.{AreOpen, HasTexts, RefusesRightly, is_of, source_at}
use Rattle.occ_editor.specs.declared.room.Room.{Room}
use Rattle.occ_editor_edits.specs.declared.documents.Document.{Document}
use Rattle.occ_files.specs.Gathering.{AreNamed, are_apart, is_met}
use Rattle.occ_files.specs.declared.gathering.Text.{Text}
use Rattle.occ_files.specs.declared.refusal.Refusal.{Refusal}
use Rattle.occ_forms.specs.Prepared.{Prepared}

-- its place, where the first of them has this one
abbrev pub place_from : ℕ → List Text → List ℕ → Option ℕ
place_from n [] path = None
place_from n (text ∷ texts) path = if bytes_eq (string_bytes text.path) path then Some n else place_from (n + 1) texts path

abbrev pub place_at : List Text → List ℕ → Option ℕ
place_at texts path = place_from 0 texts path

-- the file at the path is there with these bytes
abbrev pub HasAt : List Text → List ℕ → Option (List ℕ) → Type 0
HasAt texts path bytes = (source : Prepared) × (source_at texts path ≡ Some source) × (bytes ≡ Some source.text)

-- the files of a board were found, and those that are asked for are there or refused
pub record AreFound (documents : List Document) (board : State) (texts : List Text) (refusals : List Refusal) (paths : List (String Global)) : Type 0 where
  pub apart : are_apart texts ≡ true
  pub has : HasTexts board texts
  pub opened : AreOpen documents texts
  pub named : AreNamed texts
  pub right : RefusesRightly documents texts refusals
  pub met : All (λ path. is_met texts refusals (string_bytes path) ≡ true) paths

-- the paths of the open units that are of a room
abbrev pub wanted : List Document → Room → List (List ℕ)
wanted documents room = filter (is_of room) (map (λ document. string_bytes document.path) documents)

-- these are among the paths
abbrev pub AreAsked : List Document → Room → List (String Global) → Type 0
AreAsked documents room paths = map string_bytes paths ≡ wanted documents room
