-- How a run goes on: commands that were carried out, and what a script says after them, whatever comes.
use Rattle.std.specs.Prelude.{ℕ, Bool, ◌≡◌, ◌⊎◌, ◌<◌, length, IsSome, List, ◌++◌, take, Option, Some}
use Rattle.occheck_commands.specs.Left.{ending}
use Rattle.occheck_commands.specs.Script.{Placed, Script}
use Rattle.occheck_script.specs.Devices.{Appends, AppendsFront}
use Rattle.occheck_script.specs.Machine.{IsReading, Reading}
use Rattle.occheck_script.specs.Output.{answers, end_status, fault_text, state_after}
use Rattle.occheck_script.specs.declared.desk.Desk.{Desk}
use Rattle.occheck_script.specs.declared.status.Status.{Status}
use Rattle.occheck_script.specs.declared.status.Status.TheVariants as status

-- a script that says these commands first
abbrev pub preceded : List Placed → Script → Script
preceded done script = record { commands = done ++ script.commands; fault = script.fault }

-- memory was refused at the command after the first k, or at the line that reports the fault
abbrev pub IsRefusedIn : ℕ → Script → Type 0
IsRefusedIn k script = (k < length script.commands) ⊎ ((k ≡ length script.commands) × IsSome script.fault)

-- all that is written from this state on
abbrev pub output_from : Reading → Desk → Script → List ℕ
output_from read s script = answers read s script.commands ++ fault_text script.fault

abbrev pub IsWholeFrom : Reading → Desk → Script → Option (List ℕ) → Option (List ℕ) → Status → Type 0
IsWholeFrom read s script before now ended = Appends before now (output_from read s script) × (ended ≡ end_status script.fault (state_after read s script.commands))

-- what was written when the run of a script from this state on ended with the status
abbrev pub IsWrittenFrom : Reading → Desk → Script → Option (List ℕ) → Option (List ℕ) → Status → Type 0
IsWrittenFrom read s script before now status.Clean = IsWholeFrom read s script before now status.Clean
IsWrittenFrom read s script before now status.Errors = IsWholeFrom read s script before now status.Errors
IsWrittenFrom read s script before now status.ScriptFault = IsWholeFrom read s script before now status.ScriptFault
IsWrittenFrom read s script before now status.DeviceFault = AppendsFront before now (output_from read s script)
IsWrittenFrom read s script before now status.NoMemory = (k : ℕ) × IsRefusedIn k script × Appends before now (answers read s (take k script.commands))
IsWrittenFrom read s script before now status.Disagree = ⊥

-- these commands were carried out, from the one state to the other, and their answers written
pub record AreAnswered (read : Reading) (done : List Placed) (desk next : Desk) (before now : Option (List ℕ)) : Type 0 where
  pub state : next ≡ state_after read desk done
  pub written : Appends before now (answers read desk done)

-- some commands were carried out; whatever comes after, a script that says them and then what is left is what there was
pub record GoesOn (line : ℕ) (bytes : List ℕ) (next_line : ℕ) (left : List ℕ) (desk next : Desk) (before now : Option (List ℕ)) : Type 0 where
  pub done : List Placed
  pub says : (over : Bool) (more : List ℕ) → ending over line (bytes ++ more) ≡ preceded done (ending over next_line (left ++ more))
  pub run : (read : Reading) → IsReading read done → AreAnswered read done desk next before now

-- the run ended with the status, whatever comes after
abbrev pub Stops : ℕ → List ℕ → Desk → Option (List ℕ) → Option (List ℕ) → Status → Type 0
Stops line bytes desk before now ended =
    (over : Bool) (more : List ℕ) (read : Reading) → IsReading read (ending over line (bytes ++ more)).commands → IsWrittenFrom read desk (ending over line (bytes ++ more)) before now ended

-- ---- answers that are held back

-- a front of all was written after what there was before, and this is left
unfoldable pub Left : Option (List ℕ) → Option (List ℕ) → List ℕ → List ℕ → Type 0
Left before now rest all = (w : List ℕ) → before ≡ Some w → (front : List ℕ) × (all ≡ front ++ rest) × (now ≡ Some (w ++ front))

-- the run ended with the status while all was to be written and then this answer: where memory was refused, all was written
abbrev pub IsHalted : Option (List ℕ) → Option (List ℕ) → List ℕ → List ℕ → Status → Type 0
IsHalted before now all more status.Clean = ⊥
IsHalted before now all more status.Errors = ⊥
IsHalted before now all more status.ScriptFault = ⊥
IsHalted before now all more status.DeviceFault = AppendsFront before now (all ++ more)
IsHalted before now all more status.NoMemory = Appends before now all
IsHalted before now all more status.Disagree = ⊥
