-- A board that settles has the files that it had.
use Rattle.std.proofs.Common.{◌≡◌, ℕ, zero, suc, Option, Some, None, refl}
use Rattle.occ_board.specs.Machine.{State, after, files_of, take_answer}
use Rattle.occ_board.specs.Machine.Event.{Finish, Take}
use Rattle.occ_check.specs.Input.{Input}
use Rattle.occheck_script.specs.Settling.{settled, settled_in, with_next}

settles_in : (n : ℕ) (s : State) → files_of (settled_in n s) ≡ files_of s
settles_in zero s = refl
settles_in (suc n) s = by (take_answer s) (settles_in n) where
  by : (o : Option Input) → ((t : State) → files_of (settled_in n t) ≡ files_of t) → files_of (with_next (settled_in n) s o) ≡ files_of s
  by None rest = refl
  by (Some i) rest = rest (after (after s Take) (Finish i))

pub settles : (s : State) → files_of (settled s) ≡ files_of s
settles s = settles_in _ s
