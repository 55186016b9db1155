-- The files that were found.
use Rattle.std.specs.Prelude.{◌≡◌, ℕ, Bool, true, not, ◌&&◌, ◌||◌, List, [], ◌∷◌, Some}
use Rattle.std.specs.List.{list_any}
use Rattle.std.specs.Str.{bytes_eq}
use Rattle.std.specs.String.{string_bytes}
use Rattle.occ_files.specs.Paths.{Gives, Known, name_of}
use Rattle.occ_files.specs.declared.gathering.Text.{Text}
use Rattle.occ_files.specs.declared.refusal.Refusal.{Refusal}

-- each is what a read of its path may give
abbrev pub AreGiven : Known → List Text → Type 0
AreGiven known [] = Unit {0}
AreGiven known (text ∷ texts) = Gives known (string_bytes text.path) (Some text.source.text) × AreGiven known texts

-- each has the name at the end of its path
abbrev pub AreNamed : List Text → Type 0
AreNamed [] = Unit {0}
AreNamed (text ∷ texts) = (text.name ≡ name_of (string_bytes text.path)) × AreNamed texts

-- one of them has the name
abbrev pub has_name : List Text → List ℕ → Bool
has_name texts name = list_any (λ text. bytes_eq text.name name) texts

-- no two have one name
abbrev pub are_apart : List Text → Bool
are_apart [] = true
are_apart (text ∷ texts) = not (has_name texts text.name) && are_apart texts

-- one of them is the file at the path
abbrev pub has_path : List Text → List ℕ → Bool
has_path texts path = list_any (λ text. bytes_eq (string_bytes text.path) path) texts

-- the file at the path is not checked, and it is told why
abbrev pub is_refused : List Refusal → List ℕ → Bool
is_refused refusals path = list_any (λ refusal. bytes_eq (string_bytes refusal.path) path) refusals

-- it is there or refused
abbrev pub is_met : List Text → List Refusal → List ℕ → Bool
is_met texts refusals path = has_path texts path || is_refused refusals path
