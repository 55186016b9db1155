-- Units for which there may be a job.
use Rattle.std.specs.Prelude.{◌≡◌, ◌<◌, ◌&&◌, ℕ, Bool, true, false, not, List, get_or, slice_get, Some}
use Rattle.std.specs.BTreeSet.{BTreeSet, contains}
use Rattle.std.specs.List.{list_all}
use Rattle.std.specs.Ordering.{nat_cmp}
use Rattle.occ_base.specs.FileName.{is_unit}
use Rattle.occ_board.specs.Done.{done, is_input_among, is_cached}
use Rattle.occ_board.specs.Journal.{is_open}
use Rattle.occ_check.specs.Input.{Input}
use Rattle.occ_project.specs.declared.reads.Read.{Read}
use Rattle.occ_check.specs.Checks.{input}
use Rattle.occ_check.specs.Report.{is_open_unit}
use Rattle.occ_board.specs.inside.Flagged.{flag_of}
use Rattle.occ_project_units.specs.Along.{name_at}
use Rattle.occ_project_units.specs.Indices.{is_below, rest_units, standing_of}

-- all that the unit rests on is done
abbrev pub is_rested : List Read → List Input → List ℕ → Bool
is_rested files cached u = list_all (done files cached) (rest_units files u)

-- of these units those that u rests on are done
abbrev pub AreRested : List Read → List Input → List ℕ → List (List ℕ) → Type 0
AreRested files cached u names = (i : ℕ) (v : List ℕ) → slice_get names i ≡ Some v → is_below (standing_of files u v) ≡ true → done files cached v ≡ true

-- an open unit for which there is a job
pub record HasJob (files : List Read) (cached : List Input) (u : List ℕ) : Type 0 where
  pub unit : is_unit u ≡ true
  pub opened : is_open files u ≡ true
  pub rested : is_rested files cached u ≡ true

-- the input is the present one of such a unit, and not the one that is cached of it
pub record IsAcceptable (files : List Read) (cached : List Input) (i : Input) : Type 0 where
  pub now : i ≡ input files i.unit
  pub job : HasJob files cached i.unit
  pub other : is_cached cached i ≡ false

-- the file is a ready unit that is not handed out with its present input
abbrev pub is_next : List Read → List Input → List Input → Read → Bool
is_next files cached handed file =
    is_open_unit file && (not (done files cached file.name) && (is_rested files cached file.name && not (is_input_among handed (input files file.name))))

-- none before this index is one
abbrev pub NoneIsNext : List Read → List Input → List Input → ℕ → Type 0
NoneIsNext files cached handed n = (p : ℕ) (file : Read) → p < n → slice_get files p ≡ Some file → is_next files cached handed file ≡ false

-- the file at this index is a ready unit, as far as the flags report
abbrev pub is_ready : List Read → List Bool → ℕ → Read → Bool
is_ready files flags p file = not (get_or flags p false) && (list_all (flag_of files flags) (rest_units files (name_at files p)) && is_open_unit file)

-- none before this index is
abbrev pub NoneIsReady : List Read → List Bool → ℕ → Type 0
NoneIsReady files flags n = (p : ℕ) (file : Read) → p < n → slice_get files p ≡ Some file → is_ready files flags p file ≡ false

-- each ready unit before this index is among these
abbrev pub AreAwaited : List Read → List Bool → BTreeSet ℕ → ℕ → Type 0
AreAwaited files flags early n = (p : ℕ) (file : Read) → p < n → slice_get files p ≡ Some file → is_ready files flags p file ≡ true → contains nat_cmp early p ≡ true
