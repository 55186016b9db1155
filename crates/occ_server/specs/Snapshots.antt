-- What is handed out of the lock: a journal over a base, and a report of the files that they make.
use Rattle.std.specs.Prelude.{◌≡◌, ◌≤◌, ◌<◌, ◌⊎◌, All, List, map, Option, Some, None}
use Rattle.occ_board.specs.Journal.{IsBase, IsLegal, replay}
use Rattle.occ_board.specs.declared.base.Base.{Base}
use Rattle.occ_board.specs.declared.entry.Entry.{Entry}
use Rattle.occ_board.specs.declared.report.Row.{Row}
use Rattle.occ_board.specs.declared.report.Shown.TheVariants as shown
use Rattle.occ_project.specs.declared.reads.Read.{Read}
use Rattle.occ_board.specs.Rules.{diags, open_units, whole_report}
use Rattle.occ_server.specs.Receipts.{Numbered, entry_at}
use Rattle.occ_server.specs.declared.fault.ReportFault.{ReportFault}
use Rattle.occ_server.specs.declared.fault.ReportFault.TheVariants as fault

pub record Reported : Type 0 where
  pub base : Base
  pub entries : List Entry
  pub rows : List Row

-- a unit is shown as pending, or with the diagnostics that the rules give for the files
abbrev pub IsShown : List Read → Row → Type 0
IsShown files row = (row.shown ≡ shown.Pending) ⊎ (row.shown ≡ shown.Done (diags files row.unit))

-- no edit should have been refused; the rows are those of the open units, in order of name
pub record IsSnapshot (base : Base) (entries : List Entry) (rows : List Row) : Type 0 where
  pub based : IsBase base
  pub legal : IsLegal base entries
  pub units : map (λ row. row.unit) rows ≡ open_units (replay base entries)
  pub shown : All (IsShown (replay base entries)) rows

-- the report from nothing, as rows
abbrev pub whole_rows : List Read → List Row
whole_rows files = map (λ row. record { unit = row.0; shown = shown.Done row.1 }) (whole_report files)

-- no edit should have been refused; the rows are the report from nothing
pub record IsWhole (base : Base) (entries : List Entry) (rows : List Row) : Type 0 where
  pub based : IsBase base
  pub legal : IsLegal base entries
  pub whole : rows ≡ whole_rows (replay base entries)

-- the journal has the receipt, if one is given
abbrev pub Stands : Option Numbered → Base → List Entry → Type 0
Stands None base es = Unit {0}
Stands (Some t) base es = entry_at base es t.number ≡ Some t.entry

-- what is reported of a receipt that has no report: that it was cut off, where its number is at or below this one; or that the journal
-- has something else, or nothing, at its number
abbrev pub IsBehind : Option Numbered → ReportFault → Type 0
IsBehind None (fault.Cut number) = ⊥
IsBehind (Some t) (fault.Cut number) = t.number ≤ number
IsBehind None (fault.Behind found) = ⊥
IsBehind (Some t) (fault.Behind found) = found ≡ Some t.entry → ⊥
IsBehind seen fault.Memory = Unit {0}

-- the receipt was cut off where its number is at or below that of the base, which is told; else what is reported to stand there is
-- what the journal has
abbrev pub IsFound : Option Numbered → Base → List Entry → ReportFault → Type 0
IsFound None base es (fault.Cut number) = ⊥
IsFound (Some t) base es (fault.Cut number) = (t.number ≤ base.number) × (number ≡ base.number)
IsFound None base es (fault.Behind found) = ⊥
IsFound (Some t) base es (fault.Behind found) = (base.number < t.number) × (found ≡ entry_at base es t.number)
IsFound seen base es fault.Memory = Unit {0}
