-- What a run of sessions writes. Sessions are numbered from 1.
use Rattle.std.specs.Prelude.{ℕ, Bool, true, false, ◌≡◌, ◌⊎◌, ◌+◌, ◌&&◌, nat_le, List, [], ◌∷◌, ◌++◌, codes, length, Option, Some, None}
use Rattle.std.specs.Fmt.{decimal}
use Rattle.std.specs.List.{list_all}
use Rattle.occ_board.specs.Journal.{IsLegal, nothing, replay}
use Rattle.occ_board.specs.declared.entry.Entry.{Entry}
use Rattle.occheck_commands.specs.Script.{Script}
use Rattle.occheck_script.specs.Devices.{Appends, AppendsFront}
use Rattle.occheck_script.specs.Machine.{IsReading, Reading, report_text, reports_errors, with_line_end}
use Rattle.occheck_script.specs.Output.{fault_text}
use Rattle.occheck_script.specs.declared.status.Status.{Status}
use Rattle.occheck_script.specs.declared.status.Status.TheVariants as status
use Rattle.occ_server.specs.Snapshots.{whole_rows}
use Rattle.occheck_sessions.specs.Sessions.{AreAnswers, session_fault}

-- each text that the commands of the scripts have has its lines
abbrev pub AreReading : Reading → List Script → Type 0
AreReading read [] = Unit {0}
AreReading read (script ∷ scripts) = IsReading read script.commands × AreReading read scripts

-- ---- faults

-- the session and the line of the first fault of scripts, the first of which is session k
abbrev pub fault_in : ℕ → Option ℕ → Option (ℕ × ℕ) → Option (ℕ × ℕ)
fault_in k None later = later
fault_in k (Some line) later = Some (k, line)

abbrev pub first_fault : ℕ → List Script → Option (ℕ × ℕ)
first_fault k [] = None
first_fault k (script ∷ scripts) = fault_in k (session_fault script) (first_fault (k + 1) scripts)

-- the line that begins what is written of session k
abbrev pub session_line : ℕ → List ℕ
session_line k = with_line_end (codes "session " ++ decimal k)

abbrev pub fault_lines : ℕ × ℕ → List ℕ
fault_lines fault = session_line fault.0 ++ fault_text (Some fault.1)

-- ---- answers

-- the answers of the sessions from k on to these scripts, beside a journal
abbrev pub AreReported : Reading → List Entry → ℕ → List Script → List ℕ → Type 0
AreReported read es k [] text = text ≡ []
AreReported read es k (script ∷ scripts) text =
    (answers : List ℕ) × (rest : List ℕ) × (text ≡ session_line k ++ answers ++ rest) × AreAnswers read es k [] script.commands answers × AreReported read es (k + 1) scripts rest

-- the entry is of one of so many sessions
abbrev pub is_of_one : ℕ → Entry → Bool
is_of_one sessions e = nat_le 1 e.session && nat_le e.session sessions

-- the output of a run: no script is wrong, and there is a journal of edits that should not have been refused, all of these sessions.
-- Beside it stand the answers of each session in order, and then the report from nothing of its files
pub record IsRun (read : Reading) (scripts : List Script) (es : List Entry) (output : List ℕ) : Type 0 where
  pub fine : first_fault 1 scripts ≡ None
  pub legal : IsLegal nothing es
  pub within : list_all (is_of_one (length scripts)) es ≡ true
  pub announced : (answers : List ℕ) × (output ≡ answers ++ report_text (whole_rows (replay nothing es))) × AreReported read es 1 scripts answers

-- ---- what was written

-- an output of a run was written, and the last report told an error or not
abbrev pub IsWhole : Reading → List Script → Option (List ℕ) → Option (List ℕ) → Bool → Type 0
IsWhole read scripts before now errors =
    (es : List Entry) × (output : List ℕ) × IsRun read scripts es output × Appends before now output × (errors ≡ reports_errors (whole_rows (replay nothing es)))

-- a front of an output was written
abbrev pub IsFront : Reading → List Script → Option (List ℕ) → Option (List ℕ) → Type 0
IsFront read scripts before now = (es : List Entry) × (output : List ℕ) × IsRun read scripts es output × AppendsFront before now output

-- the session and the line of the first fault were written; or a front of these lines
abbrev pub IsFaultReported : List Script → Option (List ℕ) → Option (List ℕ) → Type 0
IsFaultReported scripts before now = (fault : ℕ × ℕ) × (first_fault 1 scripts ≡ Some fault) × Appends before now (fault_lines fault)

abbrev pub IsFaultFront : List Script → Option (List ℕ) → Option (List ℕ) → Type 0
IsFaultFront scripts before now = (fault : ℕ × ℕ) × (first_fault 1 scripts ≡ Some fault) × AppendsFront before now (fault_lines fault)

-- what was written when the run of these scripts ended with the status; nothing where memory was refused, or where what was told does
-- not agree with the edits that were made
abbrev pub IsWritten : Reading → List Script → Option (List ℕ) → Option (List ℕ) → Status → Type 0
IsWritten read scripts before now status.Clean = IsWhole read scripts before now false
IsWritten read scripts before now status.Errors = IsWhole read scripts before now true
IsWritten read scripts before now status.ScriptFault = IsFaultReported scripts before now
IsWritten read scripts before now status.DeviceFault = (now ≡ before) ⊎ (IsFront read scripts before now ⊎ IsFaultFront scripts before now)
IsWritten read scripts before now status.NoMemory = now ≡ before
IsWritten read scripts before now status.Disagree = now ≡ before
