-- How texts are brought on a board in place of others.
use Rattle.std.specs.Prelude.{◌≡◌, ℕ, Bool, false, true, cond, List, Option, Some, None, if◌then◌else◌}
use Rattle.std.specs.List.{slice_get}
use Rattle.std.specs.Str.{bytes_eq}
use Rattle.occ_board.specs.Machine.{State}
use Rattle.occ_editor.specs.Placing.{source_on}
use Rattle.occ_files.specs.Gathering.{has_name}
use Rattle.occ_files.specs.declared.gathering.Text.{Text}
use Rattle.occ_forms.specs.Prepared.{Prepared}

-- what a name stood for before
abbrev pub Before : Type 0
Before = List ℕ → Option Prepared

-- the text had the same bytes before
abbrev pub has_same : Option Prepared → Prepared → Bool
has_same None source = false
has_same (Some old) source = bytes_eq old.text source.text

abbrev pub same_or : Option Prepared → Prepared → Prepared
same_or None source = source
same_or (Some old) source = if bytes_eq old.text source.text then old else source

-- the text, by what was there before where it has the same bytes
abbrev pub shared_by : Before → Text → Text
shared_by before text = record { path = text.path; name = text.name; source = same_or (before text.name) text.source }

-- so each of them is
abbrev pub AreShared : Before → List Text → Type 0
AreShared before texts = (i : ℕ) (text : Text) → slice_get texts i ≡ Some text → has_same (before text.name) text.source ≡ true → before text.name ≡ Some text.source

-- the board has of what was there before that of which there is a text
abbrev pub HasKept : State → Before → List Text → Type 0
HasKept board before texts = (name : List ℕ) → source_on board name ≡ cond (has_name texts name) (before name) None
