-- A board that settles has the base and the journal that it had.
use Rattle.std.proofs.Common.{◌≡◌, ℕ, zero, suc, Option, Some, None, refl}
use Rattle.occ_board.specs.Machine.{State, after, take_answer}
use Rattle.occ_board.specs.Machine.Event.{Finish, Take}
use Rattle.occ_check.specs.Input.{Input}
use Rattle.occheck_script.specs.Settling.{settled, settled_in, with_next}

settles_in : (n : ℕ) (s : State) → (settled_in n s).journal ≡ s.journal
settles_in zero s = refl
settles_in (suc n) s = by (take_answer s) (settles_in n) where
  by : (o : Option Input) → ((t : State) → (settled_in n t).journal ≡ t.journal) → (with_next (settled_in n) s o).journal ≡ s.journal
  by None rest = refl
  by (Some i) rest = rest (after (after s Take) (Finish i))

pub settles : (s : State) → (settled s).journal ≡ s.journal
settles s = settles_in _ s

based_in : (n : ℕ) (s : State) → (settled_in n s).base ≡ s.base
based_in zero s = refl
based_in (suc n) s = by (take_answer s) (based_in n) where
  by : (o : Option Input) → ((t : State) → (settled_in n t).base ≡ t.base) → (with_next (settled_in n) s o).base ≡ s.base
  by None rest = refl
  by (Some i) rest = rest (after (after s Take) (Finish i))

pub based : (s : State) → (settled s).base ≡ s.base
based s = based_in _ s
