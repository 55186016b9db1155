-- What an edit leaves as it was.
use Rattle.std.specs.Prelude.{◌≡◌, ℕ, List}
use Rattle.occ_board.specs.Done.{done}
use Rattle.occ_board.specs.Edits.{IsApart}
use Rattle.occ_board.specs.Machine.{State, files_of}
use Rattle.occ_check.specs.Checks.{input}

-- A unit that the file of that name does not concern has the input that it had, and is done exactly if it was.
abbrev pub LeavesApart : State → State → List ℕ → Type 0
LeavesApart old new name =
    (u : List ℕ) → IsApart (files_of old) name u → (input (files_of new) u ≡ input (files_of old) u) × (done (files_of new) old.cached u ≡ done (files_of old) old.cached u)
