-- The machine that answers the commands of a script: the board, and the jobs that workers hold.
use Rattle.std.specs.Prelude.{ℕ, Bool, false, ◌≡◌, ◌==◌, List, [], ◌∷◌, ◌++◌, if◌then◌else◌, codes, length, Option, Some, None}
use Rattle.std.specs.Fmt.{decimal}
use Rattle.std.specs.List.{flat_map, list_any}
use Rattle.std.specs.Option.{option_map}
use Rattle.occ_base.specs.Diag.{diag_line}
use Rattle.occ_base.specs.Errors.{has_error}
use Rattle.occ_base.specs.FileName.{name_fault}
use Rattle.occ_base.specs.declared.diag.Diag.{Diag}
use Rattle.occ_base.specs.declared.file_name.NameFault.{NameFault}
use Rattle.occ_base.specs.declared.file_name.NameFault.TheVariants as name
use Rattle.occ_board.specs.Machine.{after as after_event, edit_answer, finish_answer, number_of, pending_answer, report_answer, start as no_files, take_answer}
use Rattle.occ_board.specs.Machine.Event.{Abandon, Checkpoint as CutOff, Edited, Finish, Take}
use Rattle.occ_board.specs.declared.entry.Edit.{Edit}
use Rattle.occ_board.specs.declared.entry.Edit.TheVariants as edit
use Rattle.occ_board.specs.declared.entry.EditFault.{EditFault}
use Rattle.occ_board.specs.declared.entry.EditFault.TheVariants as refused
use Rattle.occ_board.specs.declared.report.Row.{Row}
use Rattle.occ_board.specs.declared.report.Shown.{Shown}
use Rattle.occ_board.specs.declared.report.Shown.TheVariants as shown
use Rattle.occ_board.specs.declared.verdict.Verdict.{Verdict}
use Rattle.occ_board.specs.declared.verdict.Verdict.TheVariants as verdict
use Rattle.occ_board.specs.Rules.{Input}
use Rattle.occheck_commands.specs.Script.{Command, Placed}
use Rattle.occheck_commands.specs.Script.Command.{Change, Checkpoint, Drop, Open, Remove, Report, Settle, Take as TakeBy, Finish as FinishBy}
use Rattle.occ_forms.specs.Prepared.{IsPrepared, Prepared}
use Rattle.occ_forms.specs.declared.source.SourceLine.{SourceLine}
use Rattle.occ_lines.specs.Lines.{limit_fault}
use Rattle.occ_lines.specs.declared.text.TextFault.{TextFault}
use Rattle.occ_lines.specs.declared.text.TextFault.TheVariants as text
use Rattle.occheck_script.specs.Settling.{settled}
use Rattle.occheck_script.specs.declared.desk.Desk.{Desk}
use Rattle.occheck_script.specs.declared.desk.Held.{Held}

-- ---- texts

-- the lines of each text
abbrev pub Reading : Type 0
Reading = List ℕ → List SourceLine

-- the lines are those that the text spells, with their forms, if it is within the limits
abbrev pub AreLines : List ℕ → List SourceLine → Type 0
AreLines contents lines = limit_fault contents ≡ None → IsPrepared contents lines

-- a text with its lines
abbrev pub text_read : Reading → List ℕ → Prepared
text_read read contents = record { text = contents; lines = read contents }

-- the text that the command has has its lines
abbrev pub ReadsCommand : Reading → Command → Type 0
ReadsCommand read (Open file contents) = AreLines contents (read contents)
ReadsCommand read (Change file contents) = AreLines contents (read contents)
ReadsCommand read (Remove file) = Unit {0}
ReadsCommand read (TakeBy w) = Unit {0}
ReadsCommand read (FinishBy w) = Unit {0}
ReadsCommand read (Drop w) = Unit {0}
ReadsCommand read Settle = Unit {0}
ReadsCommand read Checkpoint = Unit {0}
ReadsCommand read Report = Unit {0}

-- each text that the commands have has its lines
abbrev pub IsReading : Reading → List Placed → Type 0
IsReading read [] = Unit {0}
IsReading read (p ∷ ps) = ReadsCommand read p.command × IsReading read ps

-- ---- the state

-- no file is open, and no worker holds a job
abbrev pub start : Desk
start = record { board = no_files; held = []; errors = false }

-- the job that the worker holds
abbrev pub job_of : ℕ → List Held → Option Input
job_of w [] = None
job_of w (h ∷ hs) = if h.worker == w then Some h.job else job_of w hs

-- the worker holds none any more
abbrev pub without : ℕ → List Held → List Held
without w [] = []
without w (h ∷ hs) = if h.worker == w then hs else h ∷ without w hs

-- a line of the answer
abbrev pub with_line_end : List ℕ → List ℕ
with_line_end bytes = bytes ++ 10 ∷ []

-- ---- edits

abbrev pub name_word : NameFault → List ℕ
name_word name.Length = codes "Length"
name_word name.Byte = codes "Byte"
name_word name.Suffix = codes "Suffix"

abbrev pub text_word : TextFault → List ℕ
text_word text.TooLarge = codes "TooLarge"
text_word text.TooManyLines = codes "TooManyLines"
text_word text.Memory = codes "Memory"

abbrev pub board_word : EditFault → List ℕ
board_word refused.AlreadyOpen = codes "AlreadyOpen"
board_word refused.NotOpen = codes "NotOpen"
board_word refused.TooManyFiles = codes "TooManyFiles"
board_word refused.JournalFull = codes "JournalFull"
board_word refused.Memory = codes "Memory"

abbrev pub or_else : Option (List ℕ) → Option (List ℕ) → Option (List ℕ)
or_else (Some word) other = Some word
or_else None other = other

-- why the name and the text of an edit are refused: a wrong name comes before a wrong text
abbrev pub wrong_word : List ℕ → Option TextFault → Option (List ℕ)
wrong_word file wrong = or_else (option_map name_word (name_fault file)) (option_map text_word wrong)

-- why the edit of the file is refused: both come before what the board says
abbrev pub refusal : Desk → List ℕ → Option TextFault → Edit → Option (List ℕ)
refusal s file wrong e = or_else (wrong_word file wrong) (option_map board_word (edit_answer s.board e))

abbrev pub edited_text : Option (List ℕ) → List ℕ
edited_text None = with_line_end (codes "ok")
edited_text (Some word) = with_line_end (codes "refused " ++ word)

-- scripts are one session, of number 0
abbrev pub after_edit : Option (List ℕ) → Desk → Edit → Desk
after_edit None s e = record { board = after_event s.board (Edited 0 e); held = s.held; errors = s.errors }
after_edit (Some word) s e = s

-- ---- jobs

abbrev pub taken_text : Option Input → List ℕ
taken_text None = with_line_end (codes "none")
taken_text (Some i) = with_line_end (codes "job " ++ i.unit)

abbrev pub take_text : Option Input → Option Input → List ℕ
take_text (Some held) next = with_line_end (codes "busy")
take_text None next = taken_text next

abbrev pub with_job : ℕ → Option Input → List Held → List Held
with_job w None held = held
with_job w (Some i) held = held ++ (record { worker = w; job = i }) ∷ []

abbrev pub after_take : ℕ → Option Input → Desk → Desk
after_take w (Some held) s = s
after_take w None s = record { board = after_event s.board Take; held = with_job w (take_answer s.board) s.held; errors = s.errors }

abbrev pub verdict_text : List ℕ → Verdict → List ℕ
verdict_text unit verdict.Accepted = with_line_end (codes "accepted " ++ unit)
verdict_text unit verdict.Repeated = with_line_end (codes "repeated " ++ unit)
verdict_text unit (verdict.Stale file) = with_line_end (codes "stale " ++ file)
verdict_text unit (verdict.Foreign file) = with_line_end (codes "foreign " ++ file)

abbrev pub finish_text : Desk → Option Input → List ℕ
finish_text s None = with_line_end (codes "idle")
finish_text s (Some i) = verdict_text i.unit (finish_answer s.board i)

abbrev pub after_finish : ℕ → Option Input → Desk → Desk
after_finish w None s = s
after_finish w (Some i) s = record { board = after_event s.board (Finish i); held = without w s.held; errors = s.errors }

abbrev pub drop_text : Option Input → List ℕ
drop_text None = with_line_end (codes "idle")
drop_text (Some i) = with_line_end (codes "dropped " ++ i.unit)

abbrev pub after_drop : ℕ → Option Input → Desk → Desk
after_drop w None s = s
after_drop w (Some i) s = record { board = after_event s.board (Abandon i); held = without w s.held; errors = s.errors }

-- ---- settling

abbrev pub settle_text : Desk → List ℕ
settle_text s = with_line_end (codes "settled " ++ decimal (pending_answer (settled s.board)))

abbrev pub after_settle : Desk → Desk
after_settle s = record { board = settled s.board; held = s.held; errors = s.errors }

-- ---- checkpoints

-- the base has the number of the last edit from then on
abbrev pub checkpoint_text : Desk → List ℕ
checkpoint_text s = with_line_end (codes "checkpoint " ++ decimal (number_of s.board))

abbrev pub after_checkpoint : Desk → Desk
after_checkpoint s = record { board = after_event s.board CutOff; held = s.held; errors = s.errors }

-- ---- reports

abbrev pub diag_text : Diag → List ℕ
diag_text d = with_line_end (codes "  " ++ diag_line d)

abbrev pub unit_text : List ℕ → Shown → List ℕ
unit_text unit shown.Pending = with_line_end (codes "pending " ++ unit)
unit_text unit (shown.Done []) = with_line_end (codes "unit " ++ unit ++ codes " ok")
unit_text unit (shown.Done (d ∷ ds)) = with_line_end (codes "unit " ++ unit ++ codes " " ++ decimal (length (d ∷ ds))) ++ flat_map diag_text (d ∷ ds)

abbrev pub report_text : List Row → List ℕ
report_text rows = flat_map (λ row. unit_text row.unit row.shown) rows ++ with_line_end (codes "end")

abbrev pub shows_error : Shown → Bool
shows_error shown.Pending = false
shows_error (shown.Done ds) = has_error ds

abbrev pub reports_errors : List Row → Bool
reports_errors rows = list_any (λ row. shows_error row.shown) rows

abbrev pub after_report : Desk → Desk
after_report s = record { board = s.board; held = s.held; errors = reports_errors (report_answer s.board) }

-- ---- what is answered to a command, and the state after it

abbrev pub answer : Reading → Desk → Command → List ℕ
answer read s (Open file contents) = edited_text (refusal s file (limit_fault contents) (edit.Added file (text_read read contents)))
answer read s (Change file contents) = edited_text (refusal s file (limit_fault contents) (edit.Changed file (text_read read contents)))
answer read s (Remove file) = edited_text (refusal s file None (edit.Removed file))
answer read s (TakeBy w) = take_text (job_of w s.held) (take_answer s.board)
answer read s (FinishBy w) = finish_text s (job_of w s.held)
answer read s (Drop w) = drop_text (job_of w s.held)
answer read s Settle = settle_text s
answer read s Checkpoint = checkpoint_text s
answer read s Report = report_text (report_answer s.board)

abbrev pub after : Reading → Desk → Command → Desk
after read s (Open file contents) =
    after_edit (refusal s file (limit_fault contents) (edit.Added file (text_read read contents))) s (edit.Added file (text_read read contents))
after read s (Change file contents) =
    after_edit (refusal s file (limit_fault contents) (edit.Changed file (text_read read contents))) s (edit.Changed file (text_read read contents))
after read s (Remove file) = after_edit (refusal s file None (edit.Removed file)) s (edit.Removed file)
after read s (TakeBy w) = after_take w (job_of w s.held) s
after read s (FinishBy w) = after_finish w (job_of w s.held) s
after read s (Drop w) = after_drop w (job_of w s.held) s
after read s Settle = after_settle s
after read s Checkpoint = after_checkpoint s
after read s Report = after_report s
