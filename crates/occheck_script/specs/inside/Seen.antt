-- What the program's values on the way to an answer stand for.
use Rattle.std.specs.Prelude.{ℕ, Bool, true, false, ◌≡◌, List, Option, Some, None, Result, Ok, Err}
use Rattle.std.specs.Borrow.{Bor}
use Rattle.occ_board.specs.Machine.{State, after}
use Rattle.occ_board.specs.Machine.Event.{Finish, Take}
use Rattle.occ_board.specs.declared.entry.EditFault.{EditFault}
use Rattle.occ_board.specs.Rules.{Input}
use Rattle.occ_forms.specs.Prepared.{Prepared}
use Rattle.occheck_script.specs.Machine.{board_word}
use Rattle.occheck_script.specs.declared.edit.RequestedEdit.{RequestedEdit}
use Rattle.occheck_script.specs.declared.edit.RequestedEdit.TheVariants as given

-- the word that refuses what a command gives
abbrev pub refused_by : RequestedEdit → Option (List ℕ)
refused_by (given.File file source) = None
refused_by (given.Refused word) = Some word.now

-- what it gives, if it is not refused, is this file and this text
abbrev pub IsFile : RequestedEdit → List ℕ → Prepared → Type 0
IsFile (given.File file source) name text = (file ≡ name) × (source ≡ text)
IsFile (given.Refused word) name text = Unit {0}

-- the word that refuses a name
abbrev pub unnamed_by : Result (List ℕ) (Bor (List ℕ)) → Option (List ℕ)
unnamed_by (Ok file) = None
unnamed_by (Err word) = Some word.now

-- the word with which the board refuses an edit
abbrev pub refused_edit : Result ℕ EditFault → Option (List ℕ)
refused_edit (Ok number) = None
refused_edit (Err fault) = Some (board_word fault)

-- the next job, if there was one, was taken and finished
abbrev pub IsNext : Bool → Option Input → State → State → Type 0
IsNext true (Some i) s t = t ≡ after (after s Take) (Finish i)
IsNext true None s t = ⊥
IsNext false (Some i) s t = ⊥
IsNext false None s t = t ≡ s
