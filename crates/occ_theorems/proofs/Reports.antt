-- The report of a state is right.
use Rattle.std.proofs.Common.{◌≡◌, ℕ, List, All, map}
use Rattle.std.proofs.lemmas.List.Elements.{All-map}
use Rattle.std.specs.List.{slice_index_or}
use Rattle.occ_base.specs.declared.code.Code.TheVariants.{G2}
use Rattle.occ_board.specs.Done.{done}
use Rattle.occ_board.specs.Machine.{State, files_of, pending_answer, report_answer, row_of}
use Rattle.occ_project.specs.declared.reads.Read.{Read}
use Rattle.occ_check.specs.Checks.{diags}
use Rattle.occ_check.specs.Input.{Input}
use Rattle.occ_check.specs.Report.{AreReporting, open_units}
use Rattle.occ_server.proofs.Shows.{row_by, units_are}
use Rattle.occ_server.specs.Snapshots.{IsShown, whole_rows}
use Rattle.occ_theorems.specs.Reports.{IsRight}
use Rattle.occ_project_units.specs.Units.{IsCircular}

all_shown : (files : List Read) (cached : List Input) → All (IsShown files) (map (row_of files cached) (open_units files))
all_shown files cached =
    All-map (IsShown files) (row_of files cached) (open_units files) (λ k d h. row_by files (slice_index_or (open_units files) k d) (done files cached (slice_index_or (open_units files) k d)))

pub right_report : (s : State) → (pending_answer s ≡ 0 → report_answer s ≡ whole_rows (files_of s)) → ((u v : List ℕ) → IsCircular (files_of s) u v → AreReporting (diags (files_of s) u) G2 v) → IsRight s
right_report s whole circles = record {
  units = units_are (files_of s) s.cached (open_units (files_of s));
  shown = all_shown (files_of s) s.cached;
  whole = whole;
  circles = circles;
}
