-- What a report shows.
use Rattle.std.proofs.Common.{◌≡◌, Bool, true, false, ℕ, List, [], ◌∷◌, map, if◌then◌else◌, refl, sym, ap, subst, inl, inr}
use Rattle.std.proofs.lemmas.List.Elements.{All-map}
use Rattle.std.specs.List.{slice_index_or}
use Rattle.occ_board.specs.Done.{done}
use Rattle.occ_board.specs.Journal.{IsBase, IsLegal, replay}
use Rattle.occ_board.specs.Machine.{State, report_answer, row_of, rows_of}
use Rattle.occ_board.specs.declared.base.Base.{Base}
use Rattle.occ_board.specs.declared.entry.Entry.{Entry}
use Rattle.occ_board.specs.declared.report.Row.{Row}
use Rattle.occ_board.specs.declared.report.Shown.TheVariants as shown
use Rattle.occ_board.specs.Input.{Input}
use Rattle.occ_project.specs.declared.reads.Read.{Read}
use Rattle.occ_board.specs.Rules.{diags, open_units}
use Rattle.occ_server.specs.Snapshots.{IsShown, IsSnapshot}

pub units_are : (files : List Read) (cached : List Input) (us : List (List ℕ)) → map (λ (row : Row). row.unit) (map (row_of files cached) us) ≡ us
units_are files cached [] = refl
units_are files cached (u ∷ us) = ap (λ (names : List (List ℕ)). u ∷ names) (units_are files cached us)

pub row_by : (files : List Read) (u : List ℕ) (b : Bool) → IsShown files (record { unit = u; shown = if b then shown.Done (diags files u) else shown.Pending })
row_by files u true = inr refl
row_by files u false = inl refl

pub is_snapshot : (base : Base) (es : List Entry) (cached : List Input) → IsBase base → IsLegal base es → IsSnapshot base es (rows_of (replay base es) cached)
is_snapshot base es cached based legal = record {
  based = based;
  legal = legal;
  units = units_are (replay base es) cached (open_units (replay base es));
  shown =
      All-map (IsShown (replay base es)) (row_of (replay base es) cached) (open_units (replay base es))
      (λ k d h. row_by (replay base es) (slice_index_or (open_units (replay base es)) k d) (done (replay base es) cached (slice_index_or (open_units (replay base es)) k d)));
}

pub snapshot_of : (s : State) (base : Base) (es : List Entry) (rows : List Row) → IsBase s.base → IsLegal s.base s.journal → base ≡ s.base → es ≡ s.journal → rows ≡ report_answer s → IsSnapshot base es rows
snapshot_of s base es rows based legal over same shows =
    subst (λ (b : Base). IsSnapshot b es rows) (sym over)
    (subst (λ (xs : List Entry). IsSnapshot s.base xs rows) (sym same) (subst (λ (rs : List Row). IsSnapshot s.base s.journal rs) (sym shows) (is_snapshot s.base s.journal s.cached based legal)))
