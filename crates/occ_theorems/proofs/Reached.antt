-- Events leave a state sound.
use Rattle.std.proofs.Common.{◌≡◌, ◌∙◌, ◌++◌, List, [], ◌∷◌, Option, Some, None, ap, refl, subst, sym}
use Rattle.occ_board.specs.Journal.{IsLegal, base_after, nothing}
use Rattle.occ_board.specs.Machine.{Event, State, after, after_all, after_edit, edit_answer, start}
use Rattle.occ_board.specs.declared.base.Base.{Base}
use Rattle.occ_board.specs.declared.entry.Edit.{Edit}
use Rattle.occ_board.specs.declared.entry.EditFault.{EditFault}
use Rattle.occ_board.specs.declared.entry.Entry.{Entry}
use Rattle.occ_board.proofs.Edits.{legal_more}
use Rattle.occ_theorems.specs.Reached.{AreLegal, IsReached, IsSound, base_by}
use Rattle.std.specs.Prelude.{ℕ}

one_more : (base : Base) (journals : List (List Entry)) (es : List Entry) → base_by base (journals ++ es ∷ []) ≡ base_after (base_by base journals) es
one_more base [] es = refl
one_more base (journal ∷ more) es = one_more (base_after base journal) more es

legal_cuts : (base : Base) (journals : List (List Entry)) (es : List Entry) → AreLegal base journals → IsLegal (base_by base journals) es → AreLegal base (journals ++ es ∷ [])
legal_cuts base [] es h g = (g, tt)
legal_cuts base (journal ∷ more) es h g = (h.0, legal_cuts (base_after base journal) more es h.1 g)

cut : (s : State) → IsSound s → IsReached (base_after s.base s.journal)
cut s (reached, legal) = (
  reached.0 ++ s.journal ∷ [],
  legal_cuts nothing reached.0 s.journal reached.1 (subst (λ (b : Base). IsLegal b s.journal) reached.2 legal),
  ap (λ (b : Base). base_after b s.journal) reached.2 ∙ sym (one_more nothing reached.0 s.journal),
)

edited : (o : Option EditFault) (s : State) (session : ℕ) (e : Edit) → edit_answer s e ≡ o → IsSound s → IsSound (after_edit o s session e)
edited None s session e is (reached, legal) = (reached, legal_more s.base s.journal (record { session = session; edit = e }) legal is)
edited (Some fault) s session e is h = h

one_event : (s : State) (event : Event) → IsSound s → IsSound (after s event)
one_event s (Event.Edited session e) h = edited (edit_answer s e) s session e refl h
one_event s Event.Take h = h
one_event s (Event.Finish i) h = h
one_event s (Event.Abandon i) h = h
one_event s Event.Checkpoint h = (cut s h, tt)
one_event s Event.Report h = h
one_event s Event.Pending h = h

pub sound_after : (s : State) (es : List Event) → IsSound s → IsSound (after_all s es)
sound_after s [] h = h
sound_after s (e ∷ es) h = sound_after (after s e) es (one_event s e h)

pub all_sound : (es : List Event) → IsSound (after_all start es)
all_sound es = sound_after start es (([], tt, refl), tt)
