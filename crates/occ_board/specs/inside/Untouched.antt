-- What is known, after an edit of the file of a name, of the units that it does not concern.
use Rattle.std.specs.Prelude.{◌≡◌, ℕ, Bool, true, false, List, Some}
use Rattle.std.specs.Str.{bytes_eq}
use Rattle.occ_base.specs.FileName.{is_unit}
use Rattle.occ_board.specs.Done.{cached_of, done}
use Rattle.occ_board.specs.Edits.{IsApart}
use Rattle.occ_board.specs.inside.Flagged.{flag_of}
use Rattle.occ_board.specs.inside.Verified.{looked}
use Rattle.occ_check.specs.Input.{Input}
use Rattle.occ_project.specs.declared.reads.Read.{Read}

-- the file has another name; if it is a unit, neither it nor a unit that it reaches reads the file of that name
pub record IsUntouched (files : List Read) (name u : List ℕ) : Type 0 where
  pub other : bytes_eq name u ≡ false
  pub apart : is_unit u ≡ true → IsApart files name u

-- of these units none has a wrong flag, and none is missing
abbrev pub AreFlagsOfOthers : List Read → List Input → List Bool → List ℕ → Type 0
AreFlagsOfOthers files cached flags name = (u : List ℕ) → IsUntouched files name u → flag_of files flags u ≡ done files cached u

-- nor is an outcome of them wrongly verified
abbrev pub AreVerifiedOfOthers : List Read → List Input → List Bool → List ℕ → Type 0
AreVerifiedOfOthers files cached verified name = (u : List ℕ) → IsUntouched files name u → flag_of files verified u ≡ true → cached_of cached u ≡ Some (looked files cached u)
