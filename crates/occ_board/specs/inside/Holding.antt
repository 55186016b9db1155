-- What holds of what a board caches.
use Rattle.std.specs.Prelude.{◌≡◌, ◌≤◌, ◌+◌, ◌-◌, ℕ, suc, Bool, true, cond, List, [], ◌∷◌, length, slice_get, Option, Some, None, if◌then◌else◌}
use Rattle.std.specs.List.{AllByRecursion}
use Rattle.std.specs.BTreeMap.{BTreeMap, get}
use Rattle.std.specs.Option.{option_map}
use Rattle.std.specs.Str.{bytes_eq}
use Rattle.occ_base.specs.FileName.{is_unit}
use Rattle.occ_board.specs.Journal.{IsBase, IsLegal, last_number, open_number, replay}
use Rattle.occ_board.specs.declared.base.Base.{Base}
use Rattle.occ_board.specs.declared.entry.Edit.{Edit}
use Rattle.occ_board.specs.declared.entry.Edit.TheVariants as edit
use Rattle.occ_board.specs.declared.entry.Entry.{Entry}
use Rattle.occ_board.specs.inside.Flagged.{AreFlags}
use Rattle.occ_board.specs.inside.Revisions.{AllGivenByRevision, AreBefore}
use Rattle.occ_check.specs.Input.{Input}
use Rattle.occ_project.specs.Reads.{name_cmp}
use Rattle.occ_project.specs.declared.reads.Read.{Read}
use Rattle.occ_check.specs.Report.{open_units}
use Rattle.occ_project_units.specs.Spelled.{AreSpelled}

pub record IsBoard (base : Base) (journal : List Entry) (cached : List Input) (files : List Read) (flags : List Bool) (opened units : ℕ) : Type 0 where
  pub based : IsBase base
  pub few : last_number base journal ≤ 4294967295
  pub legal : IsLegal base journal
  pub files_are : files ≡ replay base journal
  pub spelled : AreSpelled files
  pub len : length flags ≡ length files
  pub flags_are : AreFlags files cached flags
  -- of units alone, open or not
  pub of_units : AllByRecursion (λ i. is_unit i.unit ≡ true) cached
  -- of what cached inputs looked at, a file that has the same revision has the same text
  pub reported : AllGivenByRevision files cached
  -- and none has the revision of the next edit, or a later one
  pub before : AreBefore (last_number base journal + 1) cached
  -- how many files are open, includes too, and how many of them are units
  pub opened_are : opened ≡ open_number files
  pub units_are : units ≡ length (open_units files)

-- the place of the input that is cached of a unit
abbrev pub index_in : List Input → List ℕ → Option ℕ
index_in [] u = None
index_in (i ∷ is) u = if bytes_eq i.unit u then Some 0 else option_map suc (index_in is u)

-- of each unit the place of the input that is cached of it, by name
abbrev pub AreIndices : BTreeMap (List ℕ) ℕ → List Input → Type 0
AreIndices indices cached = (u : List ℕ) → get name_cmp indices u ≡ index_in cached u

-- each stands at the place of its unit, so none of a unit stands twice
abbrev pub AreSingle : List Input → Type 0
AreSingle cached = (p : ℕ) (i : Input) → slice_get cached p ≡ Some i → index_in cached i.unit ≡ Some p

-- the indices by name are those of these inputs, and no two of them are of one unit
pub record IsCaching (indices : BTreeMap (List ℕ) ℕ) (cached : List Input) : Type 0 where
  pub indices_are : AreIndices indices cached
  pub single : AreSingle cached

-- how many open files of a sort there are after an edit that is not refused, n before it; the edit's file is of that sort, or is not
abbrev pub count_then : Bool → ℕ → Edit → ℕ
count_then of_it n (edit.Added name source) = n + cond of_it 1 0
count_then of_it n (edit.Changed name source) = n
count_then of_it n (edit.Removed name) = n - cond of_it 1 0
