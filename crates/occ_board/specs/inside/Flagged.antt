-- Flags of the files of a project, at their indices: set where a unit is known to be done.
use Rattle.std.specs.Prelude.{◌≡◌, ◌<◌, ◌+◌, ◌||◌, ℕ, Bool, true, false, cond, not, List, [], ◌∷◌, get_or, Option, Some, None, slice_get}
use Rattle.std.specs.Option.{is_some}
use Rattle.occ_board.specs.Done.{done, done_step}
use Rattle.occ_check.specs.Input.{Input}
use Rattle.occ_project.specs.declared.reads.Read.{Read}
use Rattle.occ_project_units.specs.Along.{by_index, name_at}

abbrev pub flag_of : List Read → List Bool → List ℕ → Bool
flag_of files flags u = by_index files (λ p. get_or flags p false) false u

-- the file is absent, or has its flag
abbrev pub absent_or : Option Read → Bool → Bool
absent_or None flag = true
absent_or (Some file) flag = not (is_some file.source) || flag

abbrev pub rest_flag : List Read → List Bool → ℕ → Bool
rest_flag files flags p = absent_or (slice_get files p) (get_or flags p false)

-- none is set of a unit that is not done
abbrev pub IsSound : List Read → List Input → List Bool → Type 0
IsSound files cached flags = (u : List ℕ) → flag_of files flags u ≡ true → done files cached u ≡ true

-- the one at this index is not missing
abbrev pub IsFullAt : List Read → List Input → List Bool → ℕ → Type 0
IsFullAt files cached flags p = done_step files cached (name_at files p) (flag_of files flags) ≡ true → get_or flags p false ≡ true

-- none is missing at the indices before this one
abbrev pub IsFull : List Read → List Input → List Bool → ℕ → Type 0
IsFull files cached flags n = (p : ℕ) → p < n → IsFullAt files cached flags p

-- set exactly where a unit is done
abbrev pub AreFlags : List Read → List Input → List Bool → Type 0
AreFlags files cached flags = (u : List ℕ) → flag_of files flags u ≡ done files cached u

-- how many are not set: those of includes and of absent files too
abbrev pub unflagged : List Bool → ℕ
unflagged [] = 0
unflagged (flag ∷ flags) = cond flag 0 1 + unflagged flags

-- how many are set: of those of the units that are done, so many open units are not pending
abbrev pub flagged : List Bool → ℕ
flagged [] = 0
flagged (flag ∷ flags) = cond flag 1 0 + flagged flags
