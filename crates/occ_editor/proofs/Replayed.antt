-- What one more edit makes of the files of a board.
use Rattle.std.proofs.Common.{◌≡◌, ◌∙◌, ◌++◌, ◌+◌, Bool, true, false, ℕ, suc, List, [], ◌∷◌, length, Option, None, Some, refl, ap, arith, cond}
use Rattle.std.specs.Str.{bytes_eq}
use Rattle.occ_board.specs.Journal.{edited, replay_from}
use Rattle.occ_board.specs.Machine.{Answer, Event, State, after, after_edit, answer, edit_answer, edit_number, edited_answer, files_of}
use Rattle.occ_board.specs.declared.entry.Edit.{Edit}
use Rattle.occ_board.specs.declared.entry.Edit.TheVariants as edit
use Rattle.occ_board.specs.declared.entry.EditFault.{EditFault}
use Rattle.occ_board.specs.declared.entry.Entry.{Entry}
use Rattle.occ_editor.specs.Placing.{source_on}
use Rattle.occ_project.specs.declared.reads.Read.{Read}
use Rattle.occ_project_units.specs.Project.{file_of, put}

replay_last : (n : ℕ) (files : List Read) (es : List Entry) (e : Entry) → replay_from n files (es ++ e ∷ []) ≡ put (replay_from n files es) (edited (n + length es) e.edit)
replay_last n files [] e = ap (λ (m : ℕ). put files (edited m e.edit)) (let k : n ≡ n + 0 = omega arith in k)
replay_last n files (x ∷ es) e =
    replay_last (n + 1) (put files (edited n x.edit)) es e
    ∙ ap (λ (m : ℕ). put (replay_from (n + 1) (put files (edited n x.edit)) es) (edited m e.edit)) (let k : n + 1 + length es ≡ n + suc (length es) = omega arith in k)

-- the file of an edit and those that it leaves, by any number
cond_source : (b : Bool) (x y : Read) → (cond b x y).source ≡ cond b x.source y.source
cond_source true x y = refl
cond_source false x y = refl

numbered : (k : ℕ) (e : Edit) (other : List ℕ) (f : Read) → (cond (bytes_eq (edited k e).name other) (edited k e) f).source ≡ cond (bytes_eq (edited 0 e).name other) (edited 0 e).source f.source
numbered k (edit.Added name source) other f = cond_source (bytes_eq name other) (edited k (edit.Added name source)) f
numbered k (edit.Changed name source) other f = cond_source (bytes_eq name other) (edited k (edit.Changed name source)) f
numbered k (edit.Removed name) other f = cond_source (bytes_eq name other) (edited k (edit.Removed name)) f

-- an edit that has a number was accepted
accepted : (s : State) (session : ℕ) (e : Edit) (n : ℕ) → Answer.Number n ≡ answer s (Event.Edited session e) → files_of (after s (Event.Edited session e)) ≡ put (files_of s) (edited (s.base.number + 1 + length s.journal) e)
accepted s session e n h = by (edit_answer s e) h where
  by : (o : Option EditFault) → Answer.Number n ≡ edited_answer o (edit_number s) → files_of (after_edit o s session e) ≡ put (files_of s) (edited (s.base.number + 1 + length s.journal) e)
  by None h = replay_last (s.base.number + 1) s.base.files s.journal (record { session = session; edit = e })
  by (Some f) h = absurd cc

-- what is said of putting a file into a project
abbrev pub Puts : Type 0
Puts = (files : List Read) (file : Read) (name : List ℕ) → file_of (put files file) name ≡ cond (bytes_eq file.name name) file (file_of files name)

pub one_edit : (s t : State) (session : ℕ) (e : Edit) (n : ℕ) → Puts → Answer.Number n ≡ answer s (Event.Edited session e) → t ≡ after s (Event.Edited session e) → (other : List ℕ) → source_on t other ≡ cond (bytes_eq (edited 0 e).name other) (edited 0 e).source (source_on s other)
one_edit s t session e n law h is other =
    let k = s.base.number + 1 + length s.journal in
    ap (λ (files : List Read). (file_of files other).source) (ap (λ (s : State). files_of s) is ∙ accepted s session e n h)
    ∙ (ap (λ (file : Read). file.source) (law (files_of s) (edited k e) other) ∙ numbered k e other (file_of (files_of s) other))

-- the same after a step that changes no file
pub one_later : (r s t : State) (session : ℕ) (e : Edit) (n : ℕ) → files_of s ≡ files_of r → Puts → Answer.Number n ≡ answer s (Event.Edited session e) → t ≡ after s (Event.Edited session e) → (other : List ℕ) → source_on t other ≡ cond (bytes_eq (edited 0 e).name other) (edited 0 e).source (source_on r other)
one_later r s t session e n same law h is other =
    one_edit s t session e n law h is other
    ∙ ap (λ (files : List Read). cond (bytes_eq (edited 0 e).name other) (edited 0 e).source (file_of files other).source) same
