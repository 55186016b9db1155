-- What a session was told.
use Rattle.std.specs.Prelude.{ℕ, ◌≡◌, ◌≤◌, List, [], length, take, Option, Some, None}
use Rattle.occ_board.specs.Journal.{nothing}
use Rattle.occ_board.specs.declared.entry.Entry.{Entry}
use Rattle.occ_board.specs.declared.report.Row.{Row}
use Rattle.occ_server.specs.Snapshots.{IsSnapshot, Reported}
use Rattle.occheck_script.specs.Machine.{report_text}
use Rattle.occheck_sessions.specs.declared.talk.Said.{Said}
use Rattle.occheck_sessions.specs.declared.talk.Said.TheVariants as said

-- what was told, and the last report among it
pub record SaidBeside : Type 0 where
  pub said : List Said
  pub last : Option Reported

-- the edits that a report has seen
abbrev pub seen_by : Option Reported → List Entry
seen_by None = []
seen_by (Some s) = s.entries

-- the text is a report of the files that so many of the first of these edits make
abbrev pub IsReport : List Entry → ℕ → List ℕ → Type 0
IsReport es seen text = (rows : List Row) × (seen ≤ length es) × IsSnapshot nothing (take seen es) rows × (text ≡ report_text rows)

-- if it is a report, it is one of the first of these edits
abbrev pub IsTold : List Entry → Said → Type 0
IsTold es said.Edited = Unit {0}
IsTold es said.Wrong = Unit {0}
IsTold es (said.Refused fault) = Unit {0}
IsTold es said.Settled = Unit {0}
IsTold es (said.Reported told) = IsReport es told.seen told.text.items
