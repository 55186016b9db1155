-- The machine: what is at a moment, and what each event answers and leaves. No diagnostics are in its state: a report takes
-- them from the texts.
use Rattle.std.specs.Prelude.{ℕ, ◌+◌, nat_eq, Bool, true, false, not, List, [], ◌∷◌, ◌++◌, length, map, if◌then◌else◌, Option, Some, None}
use Rattle.std.specs.List.{AllByRecursion, filter, find}
use Rattle.std.specs.Str.{bytes_eq}
use Rattle.occ_board.specs.Done.{done, is_input_among, pending_units, ready_units}
use Rattle.occ_board.specs.Journal.{base_after, last_number, nothing, refusal, replay}
use Rattle.occ_board.specs.Same.{same_input}
use Rattle.occ_board.specs.Verdicts.{verdict_of}
use Rattle.occ_board.specs.declared.base.Base.{Base}
use Rattle.occ_board.specs.declared.base.Cut.{Cut}
use Rattle.occ_board.specs.declared.entry.Edit.{Edit}
use Rattle.occ_board.specs.declared.entry.EditFault.{EditFault}
use Rattle.occ_board.specs.declared.entry.Entry.{Entry}
use Rattle.occ_board.specs.declared.report.Row.{Row}
use Rattle.occ_board.specs.declared.report.Shown.TheVariants as shown
use Rattle.occ_board.specs.declared.verdict.Verdict.{Verdict}
use Rattle.occ_board.specs.declared.verdict.Verdict.TheVariants as verdict
use Rattle.occ_check.specs.Input.{Input, IsInput}
use Rattle.occ_project.specs.Entries.{is_among}
use Rattle.occ_project.specs.declared.reads.Read.{Read}
use Rattle.occ_check.specs.Checks.{diags, input}
use Rattle.occ_check.specs.Report.{open_units}
use Rattle.occ_project_units.specs.Spelled.{IsSpelled}
use Rattle.occ_project_units.specs.Units.{read_names}

-- the base, and the edits that were accepted since; the inputs of the outcomes that are cached, one for each unit at most; those
-- handed out
pub record State : Type 0 where
  pub base : Base
  pub journal : List Entry
  pub cached : List Input
  pub handed : List Input

abbrev pub start : State
start = record { base = nothing; journal = []; cached = []; handed = [] }

abbrev pub files_of : State → List Read
files_of s = replay s.base s.journal

-- the number of the last edit
abbrev pub number_of : State → ℕ
number_of s = last_number s.base s.journal

-- ---- edits

abbrev pub edit_answer : State → Edit → Option EditFault
edit_answer s e = refusal s.base s.journal e

-- the number of the edit, if it is accepted
abbrev pub edit_number : State → ℕ
edit_number s = number_of s + 1

abbrev pub after_edit : Option EditFault → State → ℕ → Edit → State
after_edit None s session e = record { base = s.base; journal = s.journal ++ (record { session = session; edit = e }) ∷ []; cached = s.cached; handed = s.handed }
after_edit (Some fault) s session e = s

-- ---- jobs

-- the present input of the least ready unit that is not handed out with it
abbrev pub next_input : List Read → List Input → List Input → Option Input
next_input files cached handed = find (λ i. not (is_input_among handed i)) (map (input files) (ready_units files cached))

abbrev pub take_answer : State → Option Input
take_answer s = next_input (files_of s) s.cached s.handed

abbrev pub handed_out : List Input → Option Input → List Input
handed_out handed None = handed
handed_out handed (Some i) = handed ++ i ∷ []

abbrev pub after_take : State → State
after_take s = record { base = s.base; journal = s.journal; cached = s.cached; handed = handed_out s.handed (take_answer s) }

-- without this one
abbrev pub unhanded : List Input → Input → List Input
unhanded handed i = filter (λ j. not (same_input j i)) handed

abbrev pub after_abandon : State → Input → State
after_abandon s i = record { base = s.base; journal = s.journal; cached = s.cached; handed = unhanded s.handed i }

-- ---- outcomes

abbrev pub finish_answer : State → Input → Verdict
finish_answer s i = verdict_of (files_of s) (number_of s) s.cached i

-- in place of the one that is cached of its unit, if one is
abbrev pub with_cached : List Input → Input → List Input
with_cached [] i = i ∷ []
with_cached (j ∷ js) i = if bytes_eq j.unit i.unit then i ∷ js else j ∷ with_cached js i

abbrev pub cached_after : Verdict → List Input → Input → List Input
cached_after verdict.Accepted cached i = with_cached cached i
cached_after verdict.Repeated cached i = cached
cached_after (verdict.Stale name) cached i = cached
cached_after (verdict.Foreign name) cached i = cached

abbrev pub after_finish : State → Input → State
after_finish s i = record { base = s.base; journal = s.journal; cached = cached_after (finish_answer s i) s.cached i; handed = unhanded s.handed i }

-- ---- checkpoints

-- the edits since the base, with the number of the last one
abbrev pub checkpoint_answer : State → Cut
checkpoint_answer s = record { number = number_of s; entries = s.journal }

-- the present project is the base from then on, and the journal is empty
abbrev pub after_checkpoint : State → State
after_checkpoint s = record { base = base_after s.base s.journal; journal = []; cached = s.cached; handed = s.handed }

-- ---- what is asked

-- a unit with its diagnostics in order if it is done, else as pending
abbrev pub row_of : List Read → List Input → List ℕ → Row
row_of files cached u = record { unit = u; shown = if done files cached u then shown.Done (diags files u) else shown.Pending }

-- each open unit in order of name
abbrev pub rows_of : List Read → List Input → List Row
rows_of files cached = map (row_of files cached) (open_units files)

abbrev pub report_answer : State → List Row
report_answer s = rows_of (files_of s) s.cached

abbrev pub pending_answer : State → ℕ
pending_answer s = length (pending_units (files_of s) s.cached)

-- the open units that have the file of that name among their reads, in order of name
abbrev pub readers : List Read → List ℕ → List (List ℕ)
readers files name = filter (λ u. is_among (read_names files u) name) (open_units files)

abbrev pub expanded_number : List Read → Option Read → ℕ
expanded_number files None = 0
expanded_number files (Some file) = length (readers files file.name)

-- how many open units have the file of the last edit among their reads, and so had to be expanded anew; 0 before any edit
abbrev pub expanded_answer : State → ℕ
expanded_answer s = expanded_number (files_of s) (find (λ file. nat_eq file.revision (number_of s)) (files_of s))

-- ---- events

pub data Event : Type 0 where
  -- a session makes an edit
  Edited : ℕ → Edit → Event
  Take : Event
  -- of an outcome, and of a job, with this input
  Finish : Input → Event
  Abandon : Input → Event
  Checkpoint : Event
  Report : Event
  Pending : Event

pub data Answer : Type 0 where
  Number : ℕ → Answer
  Refused : EditFault → Answer
  Job : Option Input → Answer
  Judged : Verdict → Answer
  Nothing : Answer
  Gives : Cut → Answer
  Shows : List Row → Answer
  Count : ℕ → Answer

abbrev pub edited_answer : Option EditFault → ℕ → Answer
edited_answer None n = Answer.Number n
edited_answer (Some fault) n = Answer.Refused fault

abbrev pub answer : State → Event → Answer
answer s (Event.Edited session e) = edited_answer (edit_answer s e) (edit_number s)
answer s Event.Take = Answer.Job (take_answer s)
answer s (Event.Finish i) = Answer.Judged (finish_answer s i)
answer s (Event.Abandon i) = Answer.Nothing
answer s Event.Checkpoint = Answer.Gives (checkpoint_answer s)
answer s Event.Report = Answer.Shows (report_answer s)
answer s Event.Pending = Answer.Count (pending_answer s)

abbrev pub after : State → Event → State
after s (Event.Edited session e) = after_edit (edit_answer s e) s session e
after s Event.Take = after_take s
after s (Event.Finish i) = after_finish s i
after s (Event.Abandon i) = after_abandon s i
after s Event.Checkpoint = after_checkpoint s
after s Event.Report = s
after s Event.Pending = s

-- after these events, one after the other
abbrev pub after_all : State → List Event → State
after_all s [] = s
after_all s (e ∷ es) = after_all (after s e) es

-- there is a check of it, and each file that it looks at has the lines that its text spells
abbrev pub IsChecked : Input → Type 0
IsChecked i = IsInput i × AllByRecursion (λ read. IsSpelled read.source) i.reads

-- work alone: no edit, and each outcome is that of a check
abbrev pub IsWork : Event → Type 0
IsWork (Event.Edited session e) = ⊥
IsWork Event.Take = Unit {0}
IsWork (Event.Finish i) = IsChecked i
IsWork (Event.Abandon i) = Unit {0}
IsWork Event.Checkpoint = Unit {0}
IsWork Event.Report = Unit {0}
IsWork Event.Pending = Unit {0}

-- whether the event is an outcome that is accepted
abbrev pub is_acceptance : Answer → Bool
is_acceptance (Answer.Judged verdict.Accepted) = true
is_acceptance other = false

-- how many of the outcomes of these events are accepted
abbrev pub accepted_number : State → List Event → ℕ
accepted_number s [] = 0
accepted_number s (e ∷ es) = (if is_acceptance (answer s e) then 1 else 0) + accepted_number (after s e) es
