-- A base that follows a journal, edit by edit.
use Rattle.std.proofs.Common.{◌≡◌, ◌∙◌, ◌+◌, ◌++◌, ℕ, List, [], ◌∷◌, refl, sym, ap}
use Rattle.occ_board.specs.Journal.{edited, replay_from}
use Rattle.occ_board.specs.declared.entry.Entry.{Entry}
use Rattle.occ_board.specs.inside.Following.{edited_back}
use Rattle.occ_project.specs.declared.reads.Read.{Read}
use Rattle.occ_project_units.specs.Project.{put, put_back}

put_last : (files more : List Read) (file : Read) → put_back files (more ++ file ∷ []) ≡ put_back (put files file) more
put_last files [] file = refl
put_last files (x ∷ more) file = ap (λ (fs : List Read). put fs x) (put_last files more file)

-- files that are put the last first come in the order of their edits
pub back_replayed : (n : ℕ) (files : List Read) (es : List Entry) → put_back files (edited_back n es) ≡ replay_from n files es
back_replayed n files [] = refl
back_replayed n files (e ∷ es) = put_last files (edited_back (n + 1) es) (edited n e.edit) ∙ back_replayed (n + 1) (put files (edited n e.edit)) es

-- one edit more in front
pub back_more : (n m : ℕ) (all es : List Entry) (e : Entry) (found next : List Read) → n + 1 ≡ m → all ≡ e ∷ es → found ≡ edited_back m es → next ≡ found ++ edited n e.edit ∷ [] → next ≡ edited_back n all
back_more n m all es e found next k a f h =
    h
    ∙ ap (λ (fs : List Read). fs ++ edited n e.edit ∷ []) (f ∙ ap (λ (x : ℕ). edited_back x es) (sym k))
    ∙ ap (edited_back n) (sym a)
