-- The edits that were accepted since a base, in order, and the project that they make of it. Edits are numbered from 1.
use Rattle.std.specs.Prelude.{◌≡◌, ℕ, ◌+◌, ◌||◌, nat_le, Bool, not, if◌then◌else◌, List, [], ◌∷◌, ◌++◌, length, Option, Some, None}
use Rattle.std.specs.List.{filter}
use Rattle.std.specs.Option.{is_some}
use Rattle.occ_board.specs.declared.base.Base.{Base}
use Rattle.occ_board.specs.declared.entry.Edit.{Edit}
use Rattle.occ_board.specs.declared.entry.Edit.TheVariants as edit
use Rattle.occ_board.specs.declared.entry.EditFault.{EditFault}
use Rattle.occ_board.specs.declared.entry.EditFault.TheVariants as fault
use Rattle.occ_board.specs.declared.entry.Entry.{Entry}
use Rattle.occ_project.specs.declared.reads.Read.{Read}
use Rattle.occ_project_units.specs.Project.{file_of, put}

-- the file after edit n
abbrev pub edited : ℕ → Edit → Read
edited n (edit.Added name source) = record { name = name; revision = n; source = Some source }
edited n (edit.Changed name source) = record { name = name; revision = n; source = Some source }
edited n (edit.Removed name) = record { name = name; revision = n; source = None }

-- the files after these edits, the first of which has number n
abbrev pub replay_from : ℕ → List Read → List Entry → List Read
replay_from n files [] = files
replay_from n files (e ∷ es) = replay_from (n + 1) (put files (edited n e.edit)) es

-- the files after these edits over a base
abbrev pub replay : Base → List Entry → List Read
replay base es = replay_from (base.number + 1) base.files es

-- the number of the last of them, or of the base if there is none
abbrev pub last_number : Base → List Entry → ℕ
last_number base es = base.number + length es

-- the base that they make of it
abbrev pub base_after : Base → List Entry → Base
base_after base es = record { number = last_number base es; files = replay base es }

-- before any edit
abbrev pub nothing : Base
nothing = record { number = 0; files = [] }

-- a base is what some edits make from nothing
abbrev pub IsBase : Base → Type 0
IsBase base = (es : List Entry) × (base ≡ base_after nothing es)

abbrev pub is_open : List Read → List ℕ → Bool
is_open files name = is_some (file_of files name).source

abbrev pub open_number : List Read → ℕ
open_number files = length (filter (λ file. is_some file.source) files)

-- this fault, if the test holds, else the later one
abbrev pub else_fault : Bool → EditFault → Option EditFault → Option EditFault
else_fault test fault later = if test then Some fault else later

-- no more edits are accepted after so many since the base, or after the last number
abbrev pub is_full : ℕ → ℕ → Bool
is_full accepted last = nat_le 100000 accepted || nat_le 4294967295 last

abbrev pub if_full : Bool → Option EditFault
if_full full = else_fault full fault.JournalFull None

-- why an edit of these files is refused where the journal is full or not, the first that holds
abbrev pub refusal_of : List Read → Bool → Edit → Option EditFault
refusal_of files full (edit.Added name source) =
    else_fault (is_open files name) fault.AlreadyOpen (else_fault (nat_le 4096 (open_number files)) fault.TooManyFiles (if_full full))
refusal_of files full (edit.Changed name source) = else_fault (not (is_open files name)) fault.NotOpen (if_full full)
refusal_of files full (edit.Removed name) = else_fault (not (is_open files name)) fault.NotOpen (if_full full)

abbrev pub refusal : Base → List Entry → Edit → Option EditFault
refusal base es e = refusal_of (replay base es) (is_full (length es) (last_number base es)) e

-- after these over a base, no edit was accepted that should have been refused
abbrev pub IsLegalAfter : Base → List Entry → List Entry → Type 0
IsLegalAfter base before [] = Unit {0}
IsLegalAfter base before (e ∷ es) = (refusal base before e.edit ≡ None) × IsLegalAfter base (before ++ e ∷ []) es

abbrev pub IsLegal : Base → List Entry → Type 0
IsLegal base es = IsLegalAfter base [] es
