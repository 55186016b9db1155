-- What a script writes, and the status with which it ends.
use Rattle.std.specs.Prelude.{ℕ, ◌≡◌, ◌⊎◌, ◌<◌, ◌^◌, cond, length, IsSome, List, [], ◌∷◌, ◌++◌, codes, take, Option, Some, None}
use Rattle.std.specs.Fmt.{decimal}
use Rattle.occheck_script.specs.Devices.{Appends, AppendsFront, counted}
use Rattle.occheck_commands.specs.Script.{Placed, Script, whole_commands}
use Rattle.occheck_script.specs.Machine.{Reading, start, answer, after, with_line_end}
use Rattle.occheck_script.specs.declared.desk.Desk.{Desk}
use Rattle.occheck_script.specs.declared.status.Status.{Status}
use Rattle.occheck_script.specs.declared.status.Status.TheVariants as status

-- the answers to commands, one after the other
abbrev pub answers : Reading → Desk → List Placed → List ℕ
answers read s [] = []
answers read s (p ∷ ps) = answer read s p.command ++ answers read (after read s p.command) ps

-- the state after them
abbrev pub state_after : Reading → Desk → List Placed → Desk
state_after read s [] = s
state_after read s (p ∷ ps) = state_after read (after read s p.command) ps

abbrev pub fault_text : Option ℕ → List ℕ
fault_text None = []
fault_text (Some line) = with_line_end (codes "script fault " ++ decimal line)

abbrev pub end_status : Option ℕ → Desk → Status
end_status None s = cond s.errors status.Errors status.Clean
end_status (Some line) s = status.ScriptFault

-- all that a script writes, and its status
abbrev pub output : Reading → Script → List ℕ
output read script = answers read start script.commands ++ fault_text script.fault

abbrev pub status_of : Reading → Script → Status
status_of read script = end_status script.fault (state_after read start script.commands)

-- all of the output was written, and the run ended with its status
abbrev pub IsWhole : Reading → Script → Option (List ℕ) → Option (List ℕ) → Status → Type 0
IsWhole read script before now ended = Appends before now (output read script) × (ended ≡ status_of read script)

-- memory was refused before the first command, or at the one after the first k, or at the line that reports the fault
abbrev pub IsRefusedAt : ℕ → Script → Type 0
IsRefusedAt k script = (k ≡ 0) ⊎ ((k < length script.commands) ⊎ ((k ≡ length script.commands) × IsSome script.fault))

-- what was written when the run of a script ended with the status: all of the output; after a device failed a
-- front of it; where memory was refused the answers to the commands before
abbrev pub IsWritten : Reading → Script → Option (List ℕ) → Option (List ℕ) → Status → Type 0
IsWritten read script before now status.Clean = IsWhole read script before now status.Clean
IsWritten read script before now status.Errors = IsWhole read script before now status.Errors
IsWritten read script before now status.ScriptFault = IsWhole read script before now status.ScriptFault
IsWritten read script before now status.DeviceFault = AppendsFront before now (output read script)
IsWritten read script before now status.NoMemory = (k : ℕ) × IsRefusedAt k script × Appends before now (answers read start (take k script.commands))
IsWritten read script before now status.Disagree = ⊥

-- the same of the line that reports a script fault
abbrev pub IsFaultReported : ℕ → Option (List ℕ) → Option (List ℕ) → Status → Type 0
IsFaultReported line before now status.Clean = ⊥
IsFaultReported line before now status.Errors = ⊥
IsFaultReported line before now status.ScriptFault = Appends before now (fault_text (Some line))
IsFaultReported line before now status.DeviceFault = AppendsFront before now (fault_text (Some line))
IsFaultReported line before now status.NoMemory = now ≡ before
IsFaultReported line before now status.Disagree = ⊥

-- a read failed after so many bytes: all commands that lie whole in these were answered, and no other
abbrev pub IsCutOff : Reading → List ℕ → ℕ → ℕ → Option (List ℕ) → Option (List ℕ) → Type 0
IsCutOff read bytes taken_before taken_now before now =
    (n : ℕ) × (taken_before < 2 ^ 64 → taken_now ≡ counted taken_before n) × Appends before now (answers read start (whole_commands (take n bytes)))
