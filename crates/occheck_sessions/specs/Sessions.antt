-- What a session is told, beside the edits that were made in the end.
use Rattle.std.specs.Prelude.{ℕ, Bool, true, false, ◌≡◌, ◌⊎◌, ◌==◌, ◌≤◌, List, [], ◌∷◌, ◌++◌, codes, if◌then◌else◌, length, take, Option, Some, None}
use Rattle.occ_board.specs.Journal.{nothing}
use Rattle.occ_board.specs.declared.entry.Edit.{Edit}
use Rattle.occ_board.specs.declared.entry.Edit.TheVariants as edit
use Rattle.occ_board.specs.declared.entry.EditFault.{EditFault}
use Rattle.occ_board.specs.declared.entry.EditFault.TheVariants as fault
use Rattle.occ_board.specs.declared.entry.Entry.{Entry}
use Rattle.occ_board.specs.declared.report.Row.{Row}
use Rattle.occheck_commands.specs.Script.{Command, Placed, Script}
use Rattle.occheck_commands.specs.Script.Command.{Change, Checkpoint, Drop, Open, Remove, Report, Settle, Take as TakeBy, Finish as FinishBy}
use Rattle.occ_lines.specs.Lines.{limit_fault}
use Rattle.occheck_script.specs.Machine.{Reading, board_word, edited_text, report_text, text_read, with_line_end, wrong_word}
use Rattle.occ_server.specs.Snapshots.{IsSnapshot}

-- ---- the scripts of sessions

-- workers are threads of their own, and sessions keep all their edits: they do not have these commands
abbrev pub is_stepped : Command → Bool
is_stepped (Open file contents) = false
is_stepped (Change file contents) = false
is_stepped (Remove file) = false
is_stepped (TakeBy w) = true
is_stepped (FinishBy w) = true
is_stepped (Drop w) = true
is_stepped Settle = false
is_stepped Checkpoint = true
is_stepped Report = false

abbrev pub first_stepped : List Placed → Option ℕ → Option ℕ
first_stepped [] fault = fault
first_stepped (p ∷ ps) fault = if is_stepped p.command then Some p.line else first_stepped ps fault

-- the line of the first fault of a script as that of a session
abbrev pub session_fault : Script → Option ℕ
session_fault script = first_stepped script.commands script.fault

-- ---- its answers

-- the edits of session k in a journal, in order
abbrev pub edits_of : ℕ → List Entry → List Edit
edits_of k [] = []
edits_of k (e ∷ es) = if e.session == k then e.edit ∷ edits_of k es else edits_of k es

-- why a file may be refused to be opened, and to be changed or closed
abbrev pub refuses_opening : EditFault → Bool
refuses_opening fault.AlreadyOpen = true
refuses_opening fault.NotOpen = false
refuses_opening fault.TooManyFiles = true
refuses_opening fault.JournalFull = true
refuses_opening fault.Memory = false

abbrev pub refuses_other : EditFault → Bool
refuses_other fault.AlreadyOpen = false
refuses_other fault.NotOpen = true
refuses_other fault.TooManyFiles = false
refuses_other fault.JournalFull = true
refuses_other fault.Memory = false

abbrev pub refuses : Edit → EditFault → Bool
refuses (edit.Added name source) f = refuses_opening f
refuses (edit.Changed name source) f = refuses_other f
refuses (edit.Removed name) f = refuses_other f

abbrev pub IsRefusal : Edit → List ℕ → Type 0
IsRefusal e answer = (f : EditFault) × (refuses e f ≡ true) × (answer ≡ edited_text (Some (board_word f)))

-- the answer to an edit; made are those that the session had made before, next those that it has made then. An edit that is wrong
-- in itself, or refused, is not made
abbrev pub IsEditAnswer : Option (List ℕ) → Edit → List Edit → List ℕ → List Edit → Type 0
IsEditAnswer (Some word) e made answer next = (answer ≡ edited_text (Some word)) × (next ≡ made)
IsEditAnswer None e made answer next = ((answer ≡ edited_text None) × (next ≡ made ++ e ∷ [])) ⊎ (IsRefusal e answer × (next ≡ made))

-- session k has made these edits in this journal, and perhaps more
abbrev pub HasMade : ℕ → List Edit → List Entry → Type 0
HasMade k made es = (more : List Edit) × (edits_of k es ≡ made ++ more)

-- the report of the files that the first m edits make, with all among them that the session had made
abbrev pub IsReportAnswer : List Entry → ℕ → List Edit → List ℕ → Type 0
IsReportAnswer es k made answer = (m : ℕ) × (rows : List Row) × (m ≤ length es) × HasMade k made (take m es) × IsSnapshot nothing (take m es) rows × (answer ≡ report_text rows)

-- the answer to a command of session k, beside the journal of all edits that were made in the end
abbrev pub IsAnswer : Reading → List Entry → ℕ → List Edit → Command → List ℕ → List Edit → Type 0
IsAnswer read es k made (Open file contents) answer next = IsEditAnswer (wrong_word file (limit_fault contents)) (edit.Added file (text_read read contents)) made answer next
IsAnswer read es k made (Change file contents) answer next = IsEditAnswer (wrong_word file (limit_fault contents)) (edit.Changed file (text_read read contents)) made answer next
IsAnswer read es k made (Remove file) answer next = IsEditAnswer (wrong_word file None) (edit.Removed file) made answer next
IsAnswer read es k made (TakeBy w) answer next = ⊥
IsAnswer read es k made (FinishBy w) answer next = ⊥
IsAnswer read es k made (Drop w) answer next = ⊥
IsAnswer read es k made Checkpoint answer next = ⊥
IsAnswer read es k made Settle answer next = (answer ≡ with_line_end (codes "settled 0")) × (next ≡ made)
IsAnswer read es k made Report answer next = IsReportAnswer es k made answer × (next ≡ made)

-- the text is one answer to each of these commands, in order, after edits that session k had made; with those that are answered
-- to be made these are all its edits in the journal, in order
abbrev pub AreAnswers : Reading → List Entry → ℕ → List Edit → List Placed → List ℕ → Type 0
AreAnswers read es k made [] text = (text ≡ []) × (edits_of k es ≡ made)
AreAnswers read es k made (p ∷ ps) text =
    (answer : List ℕ) × (rest : List ℕ) × (next : List Edit) × (text ≡ answer ++ rest) × IsAnswer read es k made p.command answer next × AreAnswers read es k next ps rest
