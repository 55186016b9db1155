-- What a note leaves of the files that are open.
use Rattle.std.proofs.Common.{◌≡◌, ◌∙◌, ◌++◌, ◌∷◌, [], ℕ, Bool, true, false, cond, not, List, map, Option, Some, None, option_map, String, Global, Vec, refl, subst, sym, ap, if◌then◌else◌}
use Rattle.std.proofs.lemmas.Slice.Eq.{bytes_eq-Decides}
use Rattle.std.specs.Str.{bytes_eq}
use Rattle.std.specs.String.{string_bytes}
use Rattle.occ_editor_edits.specs.Changes.{all_changed, changed_text}
use Rattle.occ_editor_edits.specs.Documents.{ChangesAt, IsAfter, IsPut, IsTextOf, path_of, text_in, without}
use Rattle.occ_editor_edits.specs.Messages.{Told, said, told}
use Rattle.occ_editor_edits.specs.Texts.{Texts, after_saying, having, text_after, text_after_all}
use Rattle.occ_editor_edits.specs.declared.changes.Change.{Change}
use Rattle.occ_editor_edits.specs.declared.changes.Change.TheVariants as change
use Rattle.occ_editor_edits.specs.declared.documents.Document.{Document}
use Rattle.occ_editor_edits.specs.declared.documents.Note.{Note}
use Rattle.occ_editor_edits.specs.declared.documents.Note.TheVariants as note

pub is_changed : (before now : List Document) (path : String Global) (text : Vec ℕ Global) (changes : List Change) (old : List ℕ) (found : Option (List ℕ)) → found ≡ Some old → text.items ≡ all_changed old changes → now ≡ without (string_bytes path) before ++ record { path = path; text = text } ∷ [] → IsTextOf before (string_bytes path) changes found now
is_changed before now path text changes old found e made is =
    let P : Option (List ℕ) → Type 0 = λ f. IsTextOf before (string_bytes path) changes f now in
    subst P (sym e) (record { path = path; text = text }, refl, made, is)

pub is_opened : (before now : List Document) (n : Note) (path : String Global) (text : Vec ℕ Global) → n ≡ note.Opened path text → now ≡ without (string_bytes path) before ++ record { path = path; text = text } ∷ [] → IsAfter before n now
is_opened before now n path text e is =
    let P : Note → Type 0 = λ m. IsAfter before m now in
    subst P (sym e) (record { path = path; text = text }, refl, refl, is)

-- ---- what a note changes

others : (path : List ℕ) (ds : List Document) (other : List ℕ) → bytes_eq path other ≡ false → text_in (without path ds) other ≡ text_in ds other
others path [] other differs = refl
others path (d ∷ ds) other differs = by (bytes_eq (string_bytes d.path) path) refl (others path ds other differs) where
  by : (b : Bool) → bytes_eq (string_bytes d.path) path ≡ b → text_in (without path ds) other ≡ text_in ds other → text_in (cond (not b) (d ∷ without path ds) (without path ds)) other ≡ text_in (d ∷ ds) other
  by true h rest =
      let same : string_bytes d.path ≡ path = (bytes_eq-Decides (string_bytes d.path) path).0 h in
      rest ∙ sym (ap (λ (b : Bool). if b then Some d.text.items else text_in ds other) (ap (λ (p : List ℕ). bytes_eq p other) same ∙ differs))
  by false h rest = ap (λ (o : Option (List ℕ)). if bytes_eq (string_bytes d.path) other then Some d.text.items else o) rest

last_other : (ds : List Document) (d : Document) (other : List ℕ) → bytes_eq (string_bytes d.path) other ≡ false → text_in (ds ++ d ∷ []) other ≡ text_in ds other
last_other [] d other differs = ap (λ (b : Bool). if b then Some d.text.items else None) differs
last_other (e ∷ es) d other differs = ap (λ (o : Option (List ℕ)). if bytes_eq (string_bytes e.path) other then Some e.text.items else o) (last_other es d other differs)

-- a file alone may have another text where all others have theirs
alone : (before now : List Document) (path : List ℕ) → ((other : List ℕ) → bytes_eq path other ≡ false → text_in now other ≡ text_in before other) → ChangesAt before now path (text_in now path)
alone before now path same other = by (bytes_eq path other) refl where
  by : (b : Bool) → bytes_eq path other ≡ b → text_in now other ≡ cond b (text_in now path) (text_in before other)
  by true h = ap (text_in now) (sym ((bytes_eq-Decides path other).0 h))
  by false h = same other h

put_alone : (before now : List Document) (path text : List ℕ) → IsPut before path text now → ChangesAt before now path (text_in now path)
put_alone before now path text is = alone before now path (λ other differs.
    ap (λ (ds : List Document). text_in ds other) is.3
    ∙ last_other (without path before) is.0 other (ap (λ (p : List ℕ). bytes_eq p other) is.1 ∙ differs)
    ∙ others path before other differs)

pub changes_at : (before now : List Document) (n : Note) → IsAfter before n now → ChangesAt before now (path_of n) (text_in now (path_of n))
changes_at before now (note.Opened path text) is = put_alone before now (string_bytes path) text.items is
changes_at before now (note.Changed path changes) is = by (text_in before (string_bytes path)) is where
  by : (o : Option (List ℕ)) → IsTextOf before (string_bytes path) changes.items o now → ChangesAt before now (string_bytes path) (text_in now (string_bytes path))
  by None same = alone before now (string_bytes path) (λ other differs. ap (λ (ds : List Document). text_in ds other) same)
  by (Some text) is = put_alone before now (string_bytes path) (all_changed text changes.items) is
changes_at before now (note.Closed path) is = alone before now (string_bytes path) (λ other differs. ap (λ (ds : List Document). text_in ds other) is ∙ others (string_bytes path) before other differs)

-- ---- the texts after a note

none_left : (path : List ℕ) (ds : List Document) → text_in (without path ds) path ≡ None
none_left path [] = refl
none_left path (d ∷ ds) = by (bytes_eq (string_bytes d.path) path) refl (none_left path ds) where
  by : (b : Bool) → bytes_eq (string_bytes d.path) path ≡ b → text_in (without path ds) path ≡ None → text_in (cond (not b) (d ∷ without path ds) (without path ds)) path ≡ None
  by true h rest = rest
  by false h rest = ap (λ (b : Bool). if b then Some d.text.items else text_in (without path ds) path) h ∙ rest

last_one : (ds : List Document) (d : Document) (path : List ℕ) → string_bytes d.path ≡ path → text_in ds path ≡ None → text_in (ds ++ d ∷ []) path ≡ Some d.text.items
last_one [] d path is missing = ap (λ (b : Bool). if b then Some d.text.items else None) (ap (λ (p : List ℕ). bytes_eq p path) is ∙ (bytes_eq-Decides path path).1 refl)
last_one (e ∷ es) d path is missing = by (bytes_eq (string_bytes e.path) path) refl missing (last_one es d path is) where
  by : (b : Bool) → bytes_eq (string_bytes e.path) path ≡ b → (if b then Some e.text.items else text_in es path) ≡ None → (text_in es path ≡ None → text_in (es ++ d ∷ []) path ≡ Some d.text.items) → (if b then Some e.text.items else text_in (es ++ d ∷ []) path) ≡ Some d.text.items
  by true h gone rest = absurd cc
  by false h gone rest = rest gone

-- the text of a file that is put
put_at : (before now : List Document) (path text : List ℕ) → IsPut before path text now → text_in now path ≡ Some text
put_at before now path text is =
    ap (λ (ds : List Document). text_in ds path) is.3
    ∙ last_one (without path before) is.0 path is.1 (none_left path before)
    ∙ ap Some is.2

text_by : (text : List ℕ) (c : Change) → changed_text text c ≡ text_after text (told c)
text_by text (change.Whole new) = refl
text_by text (change.Range from to new) = refl

texts_by : (text : List ℕ) (changes : List Change) → all_changed text changes ≡ text_after_all text (map told changes)
texts_by text [] = refl
texts_by text (c ∷ cs) = texts_by (changed_text text c) cs ∙ ap (λ (t : List ℕ). text_after_all t (map told cs)) (text_by text c)

having_at : (before now : List Document) (path : List ℕ) (text : Option (List ℕ)) → ChangesAt before now path (text_in now path) → text_in now path ≡ text → (other : List ℕ) → text_in now other ≡ having (text_in before) path text other
having_at before now path text changes is other = changes other ∙ ap (λ (t : Option (List ℕ)). cond (bytes_eq path other) t (text_in before other)) is

-- the files that are open have the texts that a note gives them
pub texts_after : (before now : List Document) (n : Note) → IsAfter before n now → (other : List ℕ) → text_in now other ≡ after_saying (text_in before) (said n) other
texts_after before now (note.Opened path text) is = having_at before now (string_bytes path) (Some text.items) (changes_at before now (note.Opened path text) is) (put_at before now (string_bytes path) text.items is)
texts_after before now (note.Changed path changes) is = having_at before now (string_bytes path) (option_map (λ text. text_after_all text (map told changes.items)) (text_in before (string_bytes path))) (changes_at before now (note.Changed path changes) is) (by (text_in before (string_bytes path)) refl is) where
  by : (o : Option (List ℕ)) → text_in before (string_bytes path) ≡ o → IsTextOf before (string_bytes path) changes.items o now → text_in now (string_bytes path) ≡ option_map (λ text. text_after_all text (map told changes.items)) o
  by None e same = ap (λ (ds : List Document). text_in ds (string_bytes path)) same ∙ e
  by (Some text) e is = put_at before now (string_bytes path) (all_changed text changes.items) is ∙ ap Some (texts_by text changes.items)
texts_after before now (note.Closed path) is = having_at before now (string_bytes path) None (changes_at before now (note.Closed path) is) (ap (λ (ds : List Document). text_in ds (string_bytes path)) is ∙ none_left (string_bytes path) before)
