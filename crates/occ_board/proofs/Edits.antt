-- The files and the journal after one more edit.
use Rattle.std.proofs.Common.{not, ◌||◌, ◌≡◌, ◌∙◌, ◌++◌, ◌+◌, ◌<◌, Bool, true, false, ℕ, suc, List, [], ◌∷◌, length, Option, None, refl, sym, ap, arith, append_assoc, append-nil, nat_le}
use Rattle.occ_board.specs.Journal.{IsLegal, IsLegalAfter, edited, else_fault, if_full, is_full, is_open, last_number, open_number, refusal, refusal_of, replay, replay_from}
use Rattle.occ_board.specs.declared.base.Base.{Base}
use Rattle.occ_board.specs.declared.entry.Edit.{Edit}
use Rattle.occ_board.specs.declared.entry.Edit.TheVariants as edit
use Rattle.occ_board.specs.declared.entry.EditFault.{EditFault}
use Rattle.occ_board.specs.declared.entry.EditFault.TheVariants as fault
use Rattle.occ_board.specs.declared.entry.Entry.{Entry}
use Rattle.occ_project.specs.declared.reads.Read.{Read}
use Rattle.occ_project_units.specs.Project.{put}

replay_last : (n : ℕ) (files : List Read) (es : List Entry) (e : Entry) → replay_from n files (es ++ e ∷ []) ≡ put (replay_from n files es) (edited (n + length es) e.edit)
replay_last n files [] e = ap (λ (m : ℕ). put files (edited m e.edit)) (let k : n ≡ n + 0 = omega arith in k)
replay_last n files (x ∷ es) e =
    replay_last (n + 1) (put files (edited n x.edit)) es e
    ∙ ap (λ (m : ℕ). put (replay_from (n + 1) (put files (edited n x.edit)) es) (edited m e.edit)) (let k : n + 1 + length es ≡ n + suc (length es) = omega arith in k)

pub replay_more : (base : Base) (es : List Entry) (e : Entry) → replay base (es ++ e ∷ []) ≡ put (replay base es) (edited (last_number base es + 1) e.edit)
replay_more base es e =
    replay_last (base.number + 1) base.files es e
    ∙ ap (λ (m : ℕ). put (replay base es) (edited m e.edit)) (let k : base.number + 1 + length es ≡ base.number + length es + 1 = omega arith in k)

-- the number of an edit is no part of its name and text
pub edited_is : (n : ℕ) (e : Edit) → edited n e ≡ record { name = (edited 0 e).name; revision = n; source = (edited 0 e).source }
edited_is n (edit.Added name source) = refl
edited_is n (edit.Changed name source) = refl
edited_is n (edit.Removed name) = refl

legal_after : (base : Base) (before es : List Entry) (e : Entry) → IsLegalAfter base before es → refusal base (before ++ es) e.edit ≡ None → IsLegalAfter base before (es ++ e ∷ [])
legal_after base before [] e h r = (ap (λ (xs : List Entry). refusal base xs e.edit) (sym (append-nil before)) ∙ r, tt)
legal_after base before (x ∷ es) e h r = (h.0, legal_after base (before ++ x ∷ []) es e h.1 (ap (λ (xs : List Entry). refusal base xs e.edit) (append_assoc before (x ∷ []) es) ∙ r))

pub legal_more : (base : Base) (es : List Entry) (e : Entry) → IsLegal base es → refusal base es e.edit ≡ None → IsLegal base (es ++ e ∷ [])
legal_more base es e h r = legal_after base [] es e h r

-- what is not refused finds room
passed : (b : Bool) (f : EditFault) (later : Option EditFault) → else_fault b f later ≡ None → (b ≡ false) × (later ≡ None)
passed true f later e = absurd cc
passed false f later e = (refl, e)

full_none : (b : Bool) → if_full b ≡ None → b ≡ false
full_none b e = (passed b fault.JournalFull None e).0

not_full : (files : List Read) (full : Bool) (e : Edit) → refusal_of files full e ≡ None → full ≡ false
not_full files full (edit.Added name source) r =
    let later = passed (is_open files name) fault.AlreadyOpen (else_fault (nat_le 4096 (open_number files)) fault.TooManyFiles (if_full full)) r in
    full_none full (passed (nat_le 4096 (open_number files)) fault.TooManyFiles (if_full full) later.1).1
not_full files full (edit.Changed name source) r = full_none full (passed (not (is_open files name)) fault.NotOpen (if_full full) r).1
not_full files full (edit.Removed name) r = full_none full (passed (not (is_open files name)) fault.NotOpen (if_full full) r).1

neither : (a b : Bool) → (a || b) ≡ false → b ≡ false
neither true b e = absurd cc
neither false b e = e

pub room : (base : Base) (es : List Entry) (e : Edit) → refusal base es e ≡ None → last_number base es < 4294967295
room base es e r =
    let b : nat_le 4294967295 (last_number base es) ≡ false = neither (nat_le 100000 (length es)) (nat_le 4294967295 (last_number base es)) (not_full (replay base es) (is_full (length es) (last_number base es)) e r) in
    grind arith
