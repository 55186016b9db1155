-- What the changes that an editor tells make of a text.
use Rattle.std.specs.Prelude.{ℕ, List, [], ◌∷◌}
use Rattle.occ_editor_edits.specs.Places.{edited_text}
use Rattle.occ_editor_edits.specs.declared.changes.Change.{Change}
use Rattle.occ_editor_edits.specs.declared.changes.Change.TheVariants as change

-- the text after a change
abbrev pub changed_text : List ℕ → Change → List ℕ
changed_text text (change.Whole new) = new.items
changed_text text (change.Range from to new) = edited_text from to new.items text

-- after these, one after the other
abbrev pub all_changed : List ℕ → List Change → List ℕ
all_changed text [] = text
all_changed text (c ∷ cs) = all_changed (changed_text text c) cs
