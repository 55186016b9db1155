-- The board once it has settled: its jobs were taken, checked and finished, one after the other, until none could be taken.
use Rattle.std.specs.Prelude.{◌≡◌, ℕ, zero, suc, Option, Some, None}
use Rattle.occ_board.specs.Machine.{State, after, pending_answer, take_answer}
use Rattle.occ_board.specs.Machine.Event.{Finish, Take}
use Rattle.occ_board.specs.Rules.{Input}

-- the one board settles to the other
pub data Settles : State → State → Type 0 where
  rests : (s : State) → take_answer s ≡ None → Settles s s
  goes_on : (s t : State) (i : Input) → take_answer s ≡ Some i → Settles (after (after s Take) (Finish i)) t → Settles s t

abbrev pub with_next : (State → State) → State → Option Input → State
with_next f s None = s
with_next f s (Some i) = f (after (after s Take) (Finish i))

-- after at most so many jobs
abbrev pub settled_in : ℕ → State → State
settled_in zero s = s
settled_in (suc jobs) s = with_next (settled_in jobs) s (take_answer s)

-- each job that is taken and finished at once makes a pending unit done, so there are no more jobs than pending units
abbrev pub settled : State → State
settled s = settled_in (pending_answer s) s
