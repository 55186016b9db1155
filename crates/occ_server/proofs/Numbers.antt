-- The number of an edit that is accepted; it is not refused.
use Rattle.std.proofs.Common.{◌≡◌, ℕ, Option, Some, None, refl}
use Rattle.occ_board.specs.Machine.{Answer, State, answer, edit_answer, edit_number, edited_answer, Event}
use Rattle.occ_board.specs.declared.entry.Edit.{Edit}
use Rattle.occ_board.specs.declared.entry.EditFault.{EditFault}

number_by : (refusal : Option EditFault) (m n : ℕ) → Answer.Number m ≡ edited_answer refusal n → m ≡ n
number_by None m n e = cc
number_by (Some fault) m n e = absurd cc

pub number_is : (s : State) (session : ℕ) (e : Edit) (m : ℕ) → Answer.Number m ≡ answer s (Event.Edited session e) → m ≡ edit_number s
number_is s session e m is = number_by (edit_answer s e) m (edit_number s) is

accepted_by : (refusal : Option EditFault) (m n : ℕ) → Answer.Number m ≡ edited_answer refusal n → refusal ≡ None
accepted_by None m n e = refl
accepted_by (Some fault) m n e = absurd cc

pub is_accepted : (s : State) (session : ℕ) (e : Edit) (m : ℕ) → Answer.Number m ≡ answer s (Event.Edited session e) → edit_answer s e ≡ None
is_accepted s session e m is = accepted_by (edit_answer s e) m (edit_number s) is
