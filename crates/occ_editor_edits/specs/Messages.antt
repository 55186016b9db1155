-- What a message of a client says of a file, by its JSON.
use Rattle.std.specs.Prelude.{ℕ, Bool, true, false, ◌==◌, ◌&&◌, nat_le, List, [], ◌∷◌, codes, map, take, drop, if◌then◌else◌, Option, Some, None, option_map, option_and_then, is_some}
use Rattle.std.specs.Str.{bytes_eq}
use Rattle.std.specs.String.{string_bytes}
use Rattle.std.specs.Str.Lossy.{utf8_lossy}
use Rattle.percent_encoding.specs.Percent.{percent_decode}
use Rattle.serde_json.specs.Data.{Data, Items, no_items, item}
use Rattle.serde_json.specs.Find.{as_array, as_null, as_number, as_str, as_u64, get, pointer}
use Rattle.occ_editor_edits.specs.declared.changes.Change.{Change}
use Rattle.occ_editor_edits.specs.declared.changes.Change.TheVariants as change
use Rattle.occ_editor_edits.specs.declared.documents.Note.{Note}
use Rattle.occ_editor_edits.specs.declared.documents.Note.TheVariants as note
use Rattle.occ_editor_edits.specs.declared.ranges.Place.{Place}

-- a change of a text: of all of it, or of what stands between two places
pub data Told : Type 0 where
  whole : List ℕ → Told
  range : Place → Place → List ℕ → Told

-- what is said of the file at a path: it is open from then on with a text, it is changed, it is open no more
pub data Saying : Type 0 where
  opened : List ℕ → List ℕ → Saying
  changed : List ℕ → List Told → Saying
  closed : List ℕ → Saying

-- ---- the parts of a message

-- the string there
abbrev pub string_at : List ℕ → Data → Option (List ℕ)
string_at place message = option_and_then as_str (pointer place message)

-- the number there; the greatest of 32 bits in place of a greater one
abbrev pub number_at : List ℕ → Data → Option ℕ
number_at place message = option_map (λ n. if nat_le n 4294967295 then n else 4294967295) (option_and_then as_u64 (option_and_then as_number (pointer place message)))

-- the bytes from the first `/` on
abbrev pub from_slash : List ℕ → Option (List ℕ)
from_slash [] = None
from_slash (b ∷ bs) = if b == 47 then Some (b ∷ bs) else from_slash bs

abbrev pub spelled : List ℕ → Option (List ℕ) → List ℕ
spelled uri None = uri
spelled uri (Some path) = utf8_lossy (percent_decode path)

-- the path of a URI of a file, behind `file://` and the name of a machine; what is none is a path itself
abbrev pub path_of_uri : List ℕ → List ℕ
path_of_uri uri = if bytes_eq (take 7 uri) (codes "file://") then spelled uri (from_slash (drop 7 uri)) else uri

-- the path of the file that a message is of
abbrev pub path_said : Data → Option (List ℕ)
path_said message = option_map path_of_uri (string_at (codes "/params/textDocument/uri") message)

-- ---- changes

-- the place whose line and column stand there
abbrev pub place_at : List ℕ → List ℕ → Data → Option Place
place_at line unit change = option_and_then (λ l. option_map (λ u. record { line = l; unit = u }) (number_at unit change)) (number_at line change)

abbrev pub range_told : Data → List ℕ → Option Told
range_told change text = option_and_then (λ from. option_map (λ to. range from to text) (place_at (codes "/range/end/line") (codes "/range/end/character") change)) (place_at (codes "/range/start/line") (codes "/range/start/character") change)

-- no range stands there
abbrev pub has_none : Option Data → Bool
has_none None = true
has_none (Some found) = is_some (as_null found)

-- the change that this tells, if it tells one: without a range it is of the whole text
abbrev pub change_told : Data → Option Told
change_told change = option_and_then (λ text. if has_none (get (codes "range") change) then Some (whole text) else range_told change text) (option_and_then as_str (get (codes "text") change))

-- the changes that these tell, if each tells one
abbrev pub changes_told : Items → Option (List Told)
changes_told no_items = Some []
changes_told (item change changes) = option_and_then (λ told. option_map (λ rest. told ∷ rest) (changes_told changes)) (change_told change)

-- ---- messages of files

abbrev pub opened_by : Data → Option Saying
opened_by message = option_and_then (λ path. option_map (opened path) (string_at (codes "/params/textDocument/text") message)) (path_said message)

abbrev pub changed_by : Data → Option Saying
changed_by message = option_and_then (λ path. option_map (changed path) (option_and_then changes_told (option_and_then as_array (pointer (codes "/params/contentChanges") message)))) (path_said message)

abbrev pub closed_by : Data → Option Saying
closed_by message = option_map closed (path_said message)

-- what a message of that method says
abbrev pub said_by : List ℕ → Data → Option Saying
said_by method message =
    if bytes_eq method (codes "textDocument/didOpen") then opened_by message
    else (if bytes_eq method (codes "textDocument/didChange") then changed_by message
    else (if bytes_eq method (codes "textDocument/didClose") then closed_by message else None))

-- the method of a message
abbrev pub method_of : Data → Option (List ℕ)
method_of message = option_and_then as_str (get (codes "method") message)

-- whether the method is this one
abbrev pub is_method : List ℕ → Option (List ℕ) → Bool
is_method name None = false
is_method name (Some method) = bytes_eq method name

-- what a message says of a file, if it says something
abbrev pub saying : Data → Option Saying
saying message = option_and_then (λ method. said_by method message) (method_of message)

-- ---- the same of what was read

abbrev pub told : Change → Told
told (change.Whole new) = whole new.items
told (change.Range from to new) = range from to new.items

abbrev pub said : Note → Saying
said (note.Opened path text) = opened (string_bytes path) text.items
said (note.Changed path changes) = changed (string_bytes path) (map told changes.items)
said (note.Closed path) = closed (string_bytes path)
