-- What is said of the lock: that a state stands after it whose journal is legal over its base. Which state it was when a call had
-- the lock no contract can say, since other threads have it before and after. So a refusal is said of some such state.
use Rattle.std.specs.Prelude.{◌≡◌, ◌<◌, ◌⊎◌, ℕ, nat_lt, Bool, true, false, ◌&&◌, not, List, None, Option}
use Rattle.occ_board.specs.Journal.{IsBase, IsLegal, last_number}
use Rattle.occ_board.specs.Machine.{Answer, Event, State, answer, edit_answer, edit_number, pending_answer}
use Rattle.occ_board.specs.declared.base.Cut.{Cut}
use Rattle.occ_board.specs.declared.entry.Edit.{Edit}
use Rattle.occ_board.specs.declared.entry.EditFault.{EditFault}
use Rattle.occ_board.specs.declared.entry.EditFault.TheVariants as edit_fault
use Rattle.occ_server.specs.Receipts.{IsLeastOff, Numbered, ascends, receipts_of}
use Rattle.occ_server.specs.Snapshots.{IsFound}
use Rattle.occ_server.specs.declared.fault.CloseFault.{CloseFault}
use Rattle.occ_server.specs.declared.fault.CloseFault.TheVariants as close_fault
use Rattle.occ_server.specs.declared.fault.ReportFault.{ReportFault}

abbrev pub IsHeld : State → Type 0
IsHeld s = IsBase s.base × IsLegal s.base s.journal

-- it is so of one of them
abbrev pub OfOne : (State → Type 0) → Type 0
OfOne P = (s : State) × IsHeld s × P s

-- the edit gets this number
abbrev pub IsNumberOf : Edit → ℕ → State → Type 0
IsNumberOf e number s = (edit_answer s e ≡ None) × (number ≡ edit_number s)

-- the edit is refused so
abbrev pub IsRefusalOf : ℕ → Edit → EditFault → Type 0
IsRefusalOf session e f = (f ≡ edit_fault.Memory) ⊎ OfOne (λ s. Answer.Refused f ≡ answer s (Event.Edited session e))

-- the report is refused so: what was cut off, or what stands at the number of the receipt
abbrev pub IsUnreported : Option Numbered → ReportFault → Type 0
IsUnreported seen f = OfOne (λ s. IsFound seen s.base s.journal f)

-- the receipts do not end this state, for this reason
abbrev pub IsUnended : List Numbered → CloseFault → State → Type 0
IsUnended ts close_fault.OutOfOrder s = ascends ts ≡ false
IsUnended ts (close_fault.Mismatch n) s = (ascends ts ≡ true) × IsLeastOff ts s.base s.journal n
IsUnended ts close_fault.Pending s = (ascends ts ≡ true) × (ts ≡ receipts_of s.base s.journal) × (0 < pending_answer s)
IsUnended ts close_fault.Memory s = (ascends ts ≡ true) × (ts ≡ receipts_of s.base s.journal) × (pending_answer s ≡ 0)

-- the edits since the base, with the number of the last one
abbrev pub IsCutOf : Cut → State → Type 0
IsCutOf cut s = (cut.entries ≡ s.journal) × (cut.number ≡ last_number s.base s.journal)

-- there is something to wait for: a unit is pending, and the server is not stopped
abbrev pub is_waiting : Bool → State → Bool
is_waiting stopped s = not stopped && nat_lt 0 (pending_answer s)
