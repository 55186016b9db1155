use Rattle.std.proofs.Common.{◌≡◌, ◌∙◌, ◌++◌, ◌∷◌, [], List, ap, refl}
use Rattle.std.proofs.lemmas.Option.{slice_get_read}
use Rattle.occ_board.specs.declared.entry.Edit.{Edit}
use Rattle.occheck_sessions.proofs.Edits.{other_next, own_next}
use Rattle.occheck_sessions.proofs.matching.next_edit.Goals as goal

pub returns-then-entry-session-clause-next : goal.returns-then-entry-session-clause-next
returns-then-entry-session-clause-next c =
    own_next c.args.session c.loop-place.place c.args.entries.now c.index-entries-place.result (slice_get_read _ _ _ _ refl c.loop-place-test.true c.index-entries-place.is) c.if-entry-session.true
    ∙ ap (λ (xs : List Edit). xs ++ c.index-entries-place.result.edit ∷ []) c.loop-place.invariant

pub loop-place-preserved : goal.loop-place-preserved
loop-place-preserved c =
    other_next c.args.session c.loop-place.place c.args.entries.now c.index-entries-place.result (slice_get_read _ _ _ _ refl c.loop-place-test.true c.index-entries-place.is) c.if-entry-session.false
    ∙ c.loop-place.invariant
