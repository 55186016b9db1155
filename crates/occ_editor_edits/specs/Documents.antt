-- The files that are open in an editor, after each of its notes.
use Rattle.std.specs.Prelude.{◌≡◌, ℕ, not, List, [], ◌∷◌, ◌++◌, cond, if◌then◌else◌, Option, Some, None}
use Rattle.std.specs.List.{filter}
use Rattle.std.specs.Str.{bytes_eq}
use Rattle.std.specs.String.{string_bytes}
use Rattle.occ_editor_edits.specs.declared.documents.Document.{Document}
use Rattle.occ_editor_edits.specs.declared.documents.Note.{Note}
use Rattle.occ_editor_edits.specs.declared.documents.Note.TheVariants as note
use Rattle.occ_editor_edits.specs.Changes.{all_changed}
use Rattle.occ_editor_edits.specs.declared.changes.Change.{Change}

-- the path of the file that a note is of
abbrev pub path_of : Note → List ℕ
path_of (note.Opened path text) = string_bytes path
path_of (note.Changed path changes) = string_bytes path
path_of (note.Closed path) = string_bytes path

-- the text of the file at a path, if it is open
abbrev pub text_in : List Document → List ℕ → Option (List ℕ)
text_in [] path = None
text_in (d ∷ ds) path = if bytes_eq (string_bytes d.path) path then Some d.text.items else text_in ds path

-- all but the file at a path
abbrev pub without : List ℕ → List Document → List Document
without path ds = filter (λ d. not (bytes_eq (string_bytes d.path) path)) ds

-- the file at the path has this text now, and all others are as before
abbrev pub IsPut : List Document → List ℕ → List ℕ → List Document → Type 0
IsPut before path text now =
    (d : Document) × (string_bytes d.path ≡ path) × (d.text.items ≡ text) × (now ≡ without path before ++ d ∷ [])

-- the file at the path has what the changes make of its text; where it is not open, all is as before
abbrev pub IsTextOf : List Document → List ℕ → List Change → Option (List ℕ) → List Document → Type 0
IsTextOf before path changes None now = now ≡ before
IsTextOf before path changes (Some text) now = IsPut before path (all_changed text changes) now

-- what a note leaves
abbrev pub IsAfter : List Document → Note → List Document → Type 0
IsAfter before (note.Opened path text) now = IsPut before (string_bytes path) text.items now
IsAfter before (note.Changed path changes) now = IsTextOf before (string_bytes path) changes.items (text_in before (string_bytes path)) now
IsAfter before (note.Closed path) now = now ≡ without (string_bytes path) before

-- of the files that are open only the one at the path may have another text than before: this one, or none
abbrev pub ChangesAt : List Document → List Document → List ℕ → Option (List ℕ) → Type 0
ChangesAt before now path text = (other : List ℕ) → text_in now other ≡ cond (bytes_eq path other) text (text_in before other)
