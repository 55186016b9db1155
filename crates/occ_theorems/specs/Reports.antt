-- What it means that a report is right, in the words of the rules alone.
use Rattle.std.specs.Prelude.{◌≡◌, ℕ, All, List, map}
use Rattle.occ_base.specs.declared.code.Code.TheVariants.{G2}
use Rattle.occ_board.specs.Machine.{State, files_of, pending_answer, report_answer}
use Rattle.occ_check.specs.Checks.{diags}
use Rattle.occ_check.specs.Report.{AreReporting, open_units}
use Rattle.occ_server.specs.Snapshots.{IsShown, whole_rows}
use Rattle.occ_project_units.specs.Units.{IsCircular}

-- The report of a state has each open unit in order of name, as pending or with exactly the diagnostics that the rules give for the
-- present texts. With no unit pending it is the report from nothing. The rules name each unit that is used in a circle.
pub record IsRight (s : State) : Type 0 where
  pub units : map (λ row. row.unit) (report_answer s) ≡ open_units (files_of s)
  pub shown : All (IsShown (files_of s)) (report_answer s)
  pub whole : pending_answer s ≡ 0 → report_answer s ≡ whole_rows (files_of s)
  pub circles : (u v : List ℕ) → IsCircular (files_of s) u v → AreReporting (diags (files_of s) u) G2 v
