-- What the last steps of a run write.
use Rattle.std.specs.Prelude.{ℕ, Bool, true, false, ◌≡◌, List, Option}
use Rattle.occ_board.specs.Journal.{nothing, replay}
use Rattle.occ_board.specs.declared.entry.Entry.{Entry}
use Rattle.occheck_commands.specs.Script.{Script}
use Rattle.occheck_script.specs.Devices.{Appends, AppendsFront}
use Rattle.occheck_script.specs.Machine.{Reading, reports_errors}
use Rattle.occheck_script.specs.declared.status.Status.{Status}
use Rattle.occheck_script.specs.declared.status.Status.TheVariants as status
use Rattle.occ_server.specs.Snapshots.{whole_rows}
use Rattle.occheck_sessions.specs.Output.{IsRun, fault_lines}

-- the text is the output of a run, and its last report tells an error or not
abbrev pub IsOutput : Reading → List Script → List ℕ → Bool → Type 0
IsOutput read scripts text errors = (es : List Entry) × IsRun read scripts es text × (errors ≡ reports_errors (whole_rows (replay nothing es)))

-- an output was written, and the run ended with the status
abbrev pub IsOutputWritten : List ℕ → Bool → Option (List ℕ) → Option (List ℕ) → Status → Type 0
IsOutputWritten text errors before now status.Clean = Appends before now text × (errors ≡ false)
IsOutputWritten text errors before now status.Errors = Appends before now text × (errors ≡ true)
IsOutputWritten text errors before now status.ScriptFault = ⊥
IsOutputWritten text errors before now status.DeviceFault = AppendsFront before now text
IsOutputWritten text errors before now status.NoMemory = ⊥
IsOutputWritten text errors before now status.Disagree = ⊥

-- a fault was written
abbrev pub IsFaultWritten : ℕ × ℕ → Option (List ℕ) → Option (List ℕ) → Status → Type 0
IsFaultWritten fault before now status.Clean = ⊥
IsFaultWritten fault before now status.Errors = ⊥
IsFaultWritten fault before now status.ScriptFault = Appends before now (fault_lines fault)
IsFaultWritten fault before now status.DeviceFault = AppendsFront before now (fault_lines fault)
IsFaultWritten fault before now status.NoMemory = now ≡ before
IsFaultWritten fault before now status.Disagree = ⊥
