-- The number that a checkpoint tells.
use Rattle.std.proofs.Common.{◌≡◌, ap}
use Rattle.occ_board.specs.Machine.{Answer, Event, State, answer, checkpoint_answer, number_of}
use Rattle.occ_board.specs.declared.base.Cut.{Cut}

cut_is : (a b : Cut) → Answer.Gives a ≡ Answer.Gives b → a ≡ b
cut_is a b e = cc

pub cut_number : (s : State) (cut : Cut) → Answer.Gives cut ≡ answer s Event.Checkpoint → cut.number ≡ number_of s
cut_number s cut e = ap (λ (c : Cut). c.number) (cut_is cut (checkpoint_answer s) e)
