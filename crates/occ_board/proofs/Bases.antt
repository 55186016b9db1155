-- What edits make of a base is a base, and so what holds of all edits from nothing holds of a journal over it.
use Rattle.std.proofs.Common.{◌≡◌, ◌∙◌, ◌++◌, ◌+◌, ℕ, suc, List, [], ◌∷◌, length, length-append, Option, Some, None, refl, sym, ap, subst, arith}
use Rattle.occ_board.proofs.Resting.{none_is_project, replayed}
use Rattle.occ_board.specs.Journal.{IsBase, base_after, edited, nothing, replay, replay_from}
use Rattle.occ_board.specs.Machine.{Event, State, after, after_edit, edit_answer}
use Rattle.occ_board.specs.declared.base.Base.{Base}
use Rattle.occ_board.specs.declared.entry.Edit.{Edit}
use Rattle.occ_board.specs.declared.entry.EditFault.{EditFault}
use Rattle.occ_board.specs.declared.entry.Entry.{Entry}
use Rattle.occ_project.specs.declared.reads.Read.{Read}
use Rattle.occ_project_units.specs.Project.{IsProject, put}

replay_on : (n : ℕ) (files : List Read) (es fs : List Entry) → replay_from n files (es ++ fs) ≡ replay_from (n + length es) (replay_from n files es) fs
replay_on n files [] fs = ap (λ (m : ℕ). replay_from m files fs) (let k : n ≡ n + 0 = omega arith in k)
replay_on n files (e ∷ es) fs =
    replay_on (n + 1) (put files (edited n e.edit)) es fs
    ∙ ap (λ (m : ℕ). replay_from m (replay_from (n + 1) (put files (edited n e.edit)) es) fs) (let k : n + 1 + length es ≡ n + suc (length es) = omega arith in k)

-- edits one after the other
base_on : (base : Base) (es fs : List Entry) → base_after (base_after base es) fs ≡ base_after base (es ++ fs)
base_on base es fs =
    let number : base.number + length es + length fs ≡ base.number + length (es ++ fs) = (let k = length-append es fs in omega (arith, k)) in
    let files : replay (base_after base es) fs ≡ replay base (es ++ fs) =
    ap (λ (m : ℕ). replay_from m (replay base es) fs) (let k : base.number + length es + 1 ≡ base.number + 1 + length es = omega arith in k)
    ∙ sym (replay_on (base.number + 1) base.files es fs)
    in
    ap (λ (m : ℕ). record { number = m; files = replay (base_after base es) fs }) number
    ∙ ap (λ (rs : List Read). record { number = base.number + length (es ++ fs); files = rs }) files

pub later : (base : Base) (es : List Entry) → IsBase base → IsBase (base_after base es)
later base es h = (h.0 ++ es, ap (λ (b : Base). base_after b es) h.1 ∙ base_on nothing h.0 es)

edited_base : (o : Option EditFault) (s : State) (session : ℕ) (e : Edit) → (after_edit o s session e).base ≡ s.base
edited_base None s session e = refl
edited_base (Some fault) s session e = refl

pub after_event : (s : State) (event : Event) → IsBase s.base → IsBase (after s event).base
after_event s (Event.Edited session e) h = subst IsBase (sym (edited_base (edit_answer s e) s session e)) h
after_event s Event.Take h = h
after_event s (Event.Finish i) h = h
after_event s (Event.Abandon i) h = h
after_event s Event.Checkpoint h = later s.base s.journal h
after_event s Event.Report h = h
after_event s Event.Pending h = h

none_made : (es : List Entry) (base : Base) → base ≡ base_after nothing es → base.number ≡ 0 → base ≡ nothing
none_made [] base e z = e
none_made (x ∷ es) base e z = let k : base.number ≡ 0 + suc (length es) = ap (λ (b : Base). b.number) e in absurd (omega (arith, k, z))

pub only_nothing : (base : Base) → IsBase base → base.number ≡ 0 → base ≡ nothing
only_nothing base h z = none_made h.0 base h.1 z

-- what is so of all edits from nothing
pub by_all : (P : Base → Type 0) → ((es : List Entry) → P (base_after nothing es)) → (base : Base) (es : List Entry) → IsBase base → P (base_after base es)
by_all P all base es h = let more = later base es h in subst P (sym more.1) (all more.0)

pub in_order : ((files : List Read) (file : Read) → IsProject files → IsProject (put files file)) → (base : Base) (es : List Entry) → IsBase base → IsProject (replay base es)
in_order law = by_all (λ base. IsProject base.files) (λ es. replayed law 1 [] es none_is_project)

pub nothing_is : IsBase nothing
nothing_is = ([], refl)
