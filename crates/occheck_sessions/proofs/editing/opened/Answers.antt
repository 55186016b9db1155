use Rattle.std.proofs.Common.{◌≡◌, ◌∙◌, ◌++◌, ◌∷◌, [], ℕ, List, ap, sym, take}
use Rattle.std.specs.Option.{option_copied}
use Rattle.occ_board.specs.declared.entry.Edit.{Edit}
use Rattle.occheck_sessions.specs.Sessions.{edits_of}
use Rattle.occheck_sessions.proofs.Edits.{answer_made}
use Rattle.occheck_sessions.proofs.editing.opened.Goals as goal

pub returns-in_ok-made-in-Some-next_edit-clause-announced : goal.returns-in_ok-made-in-Some-next_edit-clause-announced
returns-in_ok-made-in-Some-next_edit-clause-announced c = λ read spells.
    answer_made _ _ _ _ _ (sym c.wrong_edit.ensures ∙ ap option_copied c.in_default.is) c.in_ok-made-in-Some-next_edit.ensures.text
    (ap (λ (n : ℕ). edits_of c.args.session (take n c.args.entries.now)) c.in_ok-made-in-Some-next_edit.ensures.last ∙ c.in-Some-next_edit.ensures.next
    ∙ ap (λ (e : Edit). edits_of c.args.session (take c.args.last c.args.entries.now) ++ e ∷ []) (c.is_added.ensures read spells c.if-is_added.true))
