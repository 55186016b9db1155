-- The texts of the files that a client has open, after its messages.
use Rattle.std.specs.Prelude.{◌≡◌, ℕ, cond, List, [], ◌∷◌, Option, Some, None, option_map}
use Rattle.std.specs.Str.{bytes_eq}
use Rattle.occ_editor_edits.specs.Messages.{Saying, Told, changed, closed, opened, range, whole}
use Rattle.occ_editor_edits.specs.Places.{edited_text}

-- the text of each path, if it is open
abbrev pub Texts : Type 0
Texts = List ℕ → Option (List ℕ)

-- the text after a change
abbrev pub text_after : List ℕ → Told → List ℕ
text_after text (whole new) = new
text_after text (range from to new) = edited_text from to new text

-- after these, one after the other
abbrev pub text_after_all : List ℕ → List Told → List ℕ
text_after_all text [] = text
text_after_all text (t ∷ ts) = text_after_all (text_after text t) ts

-- with this text at the path, or none; all others are as before
abbrev pub having : Texts → List ℕ → Option (List ℕ) → Texts
having texts path text = λ other. cond (bytes_eq path other) text (texts other)

-- what is said of a file is so from then on; a file that is not open is not changed
abbrev pub after_saying : Texts → Saying → Texts
after_saying texts (opened path text) = having texts path (Some text)
after_saying texts (changed path changes) = having texts path (option_map (λ text. text_after_all text changes) (texts path))
after_saying texts (closed path) = having texts path None
