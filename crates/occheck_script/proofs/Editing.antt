-- Edits that the board was asked for.
use Rattle.std.proofs.Common.{◌≡◌, ◌∙◌, ◌⊎◌, inl, inr, ℕ, List, Option, Some, None, Result, Ok, Err, IfOk, IfErr, OnOk, OnErr, IsErr, refl, ap, sym, subst}
use Rattle.std.proofs.lemmas.Result.{IfOk-from_err}
use Rattle.std.specs.Option.{option_map}
use Rattle.occ_board.specs.Machine.{Answer, State, after as after_event, answer as board_answer, edit_answer, edited_answer}
use Rattle.occ_board.specs.Machine.Event.{Edited}
use Rattle.occ_board.specs.declared.entry.Edit.{Edit}
use Rattle.occ_board.specs.declared.entry.EditFault.{EditFault}
use Rattle.occ_board.specs.declared.entry.EditFault.TheVariants as fault
use Rattle.occ_forms.specs.Prepared.{Prepared}
use Rattle.occ_lines.specs.declared.text.TextFault.{TextFault}
use Rattle.occheck_script.specs.Machine.{Reading, after_edit, board_word, edited_text, or_else, refusal, text_read, wrong_word}
use Rattle.occheck_script.specs.declared.desk.Desk.{Desk}
use Rattle.occheck_script.specs.inside.Seen.{refused_edit}
use Rattle.occheck_script.proofs.Holding.{always, desk_of}

-- what the board's answer to an edit says of it, and of what the board is after it
abbrev pub IsSaid : State → State → Edit → Result ℕ EditFault → Type 0
IsSaid s t e (Ok number) = (edit_answer s e ≡ None) × (t ≡ after_event s (Edited 0 e))
IsSaid s t e (Err f) = (f ≡ fault.Memory) ⊎ ((edit_answer s e ≡ Some f) × (t ≡ s))

is_made : (o : Option EditFault) (n m : ℕ) → Answer.Number n ≡ edited_answer o m → o ≡ None
is_made None n m h = refl
is_made (Some f) n m h = absurd cc

is_refused : (o : Option EditFault) (f : EditFault) (m : ℕ) → Answer.Refused f ≡ edited_answer o m → o ≡ Some f
is_refused None f m h = absurd cc
is_refused (Some g) f m h = cc

pub said : (s t : State) (e : Edit) (number : Result ℕ EditFault) → IfOk number (λ n. Answer.Number n ≡ board_answer s (Edited 0 e)) → OnOk number (t ≡ after_event s (Edited 0 e))
    → IfErr number (λ f. (f ≡ fault.Memory) ⊎ (Answer.Refused f ≡ board_answer s (Edited 0 e))) → OnErr number (t ≡ s) → IsSaid s t e number
said s t e (Ok n) a b c d = (is_made (edit_answer s e) n _ a, b)
said s t e (Err f) a b (inl m) d = inl m
said s t e (Err f) a b (inr r) d = inr (is_refused (edit_answer s e) f _ r, d)

refusal_is : (s : Desk) (file : List ℕ) (wrong : Option TextFault) (e : Edit) (o : Option EditFault) → wrong_word file wrong ≡ None → edit_answer s.board e ≡ o → refusal s file wrong e ≡ option_map board_word o
refusal_is s file wrong e o w h = ap (λ (x : Option (List ℕ)). or_else x (option_map board_word (edit_answer s.board e))) w ∙ ap (option_map board_word) h

none_ok : {T E : Type 0} (r : Result T E) (P : Type 0) → IsErr r → OnOk r P
none_ok (Ok x) P h = absurd cc
none_ok (Err e) P h = tt

-- what is answered
pub text_is : {T E : Type 0} (items : T → List ℕ) (r : Result T E) (s : Desk) (t : State) (file : List ℕ) (wrong : Option TextFault) (e : Edit) (number : Result ℕ EditFault)
    → wrong_word file wrong ≡ None → IsSaid s.board t e number → (number ≡ Err fault.Memory → IsErr r) → IfOk r (λ x. items x ≡ edited_text (refused_edit number)) → IfOk r (λ x. items x ≡ edited_text (refusal s file wrong e))
text_is items r s t file wrong e (Ok n) w h m f = subst (λ (o : Option (List ℕ)). IfOk r (λ x. items x ≡ edited_text o)) (sym (refusal_is s file wrong e None w h.0)) f
text_is items r s t file wrong e (Err g) w (inl k) m f = IfOk-from_err r _ (m (ap Err k))
text_is items r s t file wrong e (Err g) w (inr k) m f = subst (λ (o : Option (List ℕ)). IfOk r (λ x. items x ≡ edited_text o)) (sym (refusal_is s file wrong e (Some g) w k.0)) f

-- and what is then so
pub after_is : {T E : Type 0} (r : Result T E) (s : Desk) (t : State) (file : List ℕ) (wrong : Option TextFault) (e : Edit) (number : Result ℕ EditFault)
    → wrong_word file wrong ≡ None → IsSaid s.board t e number → (number ≡ Err fault.Memory → IsErr r) → OnOk r (desk_of t s.held s.errors ≡ after_edit (refusal s file wrong e) s e)
after_is r s t file wrong e (Ok n) w h m =
    always r _ (ap (λ (x : State). desk_of x s.held s.errors) h.1 ∙ sym (ap (λ (o : Option (List ℕ)). after_edit o s e) (refusal_is s file wrong e None w h.0)))
after_is r s t file wrong e (Err g) w (inl k) m = none_ok r _ (m (ap Err k))
after_is r s t file wrong e (Err g) w (inr k) m =
    always r _ (ap (λ (x : State). desk_of x s.held s.errors) k.1 ∙ sym (ap (λ (o : Option (List ℕ)). after_edit o s e) (refusal_is s file wrong e (Some g) w k.0)))

-- the source of a text whose lines are known
pub source_read : (read : Reading) (source : Prepared) (text : List ℕ) → source.text ≡ text → read text ≡ source.lines → source ≡ text_read read text
source_read read source text t l = ap (λ (x : List ℕ). record { text = x; lines = source.lines }) t ∙ ap (λ x. record { text = text; lines = x }) (sym l)

-- of a file and a text that are those of a command
pub renamed : (s t : State) (edit : List ℕ → Prepared → Edit) (file name : List ℕ) (source text : Prepared) (number : Result ℕ EditFault)
    → (file ≡ name) × (source ≡ text) → IsSaid s t (edit file source) number → IsSaid s t (edit name text) number
renamed s t edit file name source text number e h =
    subst (λ (x : List ℕ). IsSaid s t (edit x text) number) e.0 (subst (λ (x : Prepared). IsSaid s t (edit file x) number) e.1 h)
