-- When it is right that a file is not checked.
use Rattle.std.specs.Prelude.{◌≡◌, ◌≤◌, ◌&&◌, ℕ, Bool, true, false, not, length, List, [], ◌∷◌, IfSome, Option, Some, None}
use Rattle.std.specs.List.{list_any}
use Rattle.std.specs.Str.{bytes_eq}
use Rattle.std.specs.String.{string_bytes}
use Rattle.occ_base.specs.FileName.{is_unit, name_fault}
use Rattle.occ_files.specs.Paths.{Known, name_of}
use Rattle.occ_files.specs.declared.finding.DiskFault.{DiskFault}
use Rattle.occ_files.specs.declared.finding.DiskFault.TheVariants as fault
use Rattle.occ_files.specs.declared.gathering.Text.{Text}
use Rattle.occ_files.specs.declared.refusal.Refusal.{Refusal}
use Rattle.occ_files.specs.declared.refusal.Why.{Why}
use Rattle.occ_files.specs.declared.refusal.Why.TheVariants as why
use Rattle.occ_lines.specs.Lines.{limit_fault}

-- what is known of one file
abbrev pub Held : Type 0
Held = Option (Option (List ℕ))

-- a read fails for want of memory, or where nothing is known of the file
abbrev pub MayFail : Held → DiskFault → Type 0
MayFail held fault.Memory = Unit {0}
MayFail held (fault.Refused kind) = held ≡ None

-- the text has this name and another path
abbrev pub is_other : List ℕ → Text → Bool
is_other path text = bytes_eq text.name (name_of path) && not (bytes_eq (string_bytes text.path) path)

-- another file of its name is one of these
abbrev pub has_other : List Text → List ℕ → Bool
has_other texts path = list_any (is_other path) texts

-- it is right that the file at a path is not checked, for this reason: by what is known of it, and by the files that are checked.
-- Where all is known, as of a file that is open in an editor, none is right but for its name, its text or those files
abbrev pub IsRight : Held → List Text → List ℕ → Why → Type 0
IsRight held texts path why.NotThere = IfSome held (λ file. file ≡ None)
IsRight held texts path why.NoUnit = is_unit (name_of path) ≡ false
IsRight held texts path (why.Disk kind) = held ≡ None
IsRight held texts path (why.Name fault) = name_fault (name_of path) ≡ Some fault
IsRight held texts path (why.Text fault) = IfSome held (λ file. (bytes : List ℕ) × (file ≡ Some bytes) × (limit_fault bytes ≡ Some fault))
IsRight held texts path why.Twice = has_other texts path ≡ true
IsRight held texts path why.TooMany = 4096 ≤ length texts

-- so each of these is
abbrev pub AreRight : Known → List Text → List Refusal → Type 0
AreRight known texts [] = Unit {0}
AreRight known texts (refusal ∷ refusals) = IsRight (known (string_bytes refusal.path)) texts (string_bytes refusal.path) refusal.why × AreRight known texts refusals
