-- A board without files, and what holds of one after an edit and after a checkpoint.
use Rattle.std.proofs.Common.{◌≡◌, ◌∙◌, ◌++◌, ◌+◌, ◌<◌, ◌≤◌, ℕ, Bool, true, cond, List, [], ◌∷◌, length, length-append, Option, None, refl, sym, ap, subst, arith}
use Rattle.std.specs.Str.{bytes_eq}
use Rattle.occ_base.specs.FileName.{is_unit}
use Rattle.occ_board.proofs.Bases.{later, nothing_is}
use Rattle.occ_board.proofs.Edits.{edited_is, legal_more, replay_more, room}
use Rattle.occ_board.proofs.Opened.{open_after, units_after}
use Rattle.occ_board.proofs.Resting.{none_is_project}
use Rattle.occ_board.proofs.Revisions.{before_more, reported_then}
use Rattle.occ_board.specs.Done.{done, done_step}
use Rattle.occ_board.specs.Journal.{IsBase, IsLegal, base_after, edited, is_full, last_number, nothing, open_number, refusal, refusal_of, replay}
use Rattle.occ_board.specs.declared.base.Base.{Base}
use Rattle.occ_board.specs.declared.entry.Edit.{Edit}
use Rattle.occ_board.specs.declared.entry.Entry.{Entry}
use Rattle.occ_board.specs.inside.Flagged.{AreFlags}
use Rattle.occ_board.specs.inside.Holding.{IsBoard, count_then}
use Rattle.occ_board.specs.inside.Revisions.{AreBefore}
use Rattle.occ_check.specs.Input.{Input}
use Rattle.occ_forms.specs.Prepared.{Prepared}
use Rattle.occ_project.specs.declared.reads.Read.{Read}
use Rattle.occ_check.specs.Report.{open_units}
use Rattle.occ_project_units.specs.Project.{IsProject, file_of, put}
use Rattle.occ_project_units.specs.Spelled.{AreSpelled, IsSpelled}

none : ((files : List Read) (cached : List Input) (u : List ℕ) → IsProject files → done files cached u ≡ done_step files cached u (done files cached)) → IsBoard nothing [] [] [] [] 0 0
none law = record { based = nothing_is; few = omega arith; legal = tt; files_are = refl; spelled = λ name. tt; len = refl; flags_are = λ u. sym (law [] [] u none_is_project); of_units = tt; reported = λ k i got. absurd cc; before = λ k i got. absurd cc; opened_are = refl; units_are = refl }

pub begins : (base : Base) (journal : List Entry) (cached : List Input) (files : List Read) (flags : List Bool) → base ≡ nothing → journal ≡ [] → cached ≡ [] → files ≡ [] → flags ≡ []
    → ((files : List Read) (cached : List Input) (u : List ℕ) → IsProject files → done files cached u ≡ done_step files cached u (done files cached)) → IsBoard base journal cached files flags 0 0
begins base journal cached files flags b j k f g law =
    subst (λ (x : Base). IsBoard x journal cached files flags 0 0) (sym b)
    (subst (λ (x : List Entry). IsBoard nothing x cached files flags 0 0) (sym j)
    (subst (λ (x : List Input). IsBoard nothing [] x files flags 0 0) (sym k)
    (subst (λ (x : List Read). IsBoard nothing [] [] x flags 0 0) (sym f) (subst (λ (x : List Bool). IsBoard nothing [] [] [] x 0 0) (sym g) (none law)))))

-- and one after one more edit
pub accepts : (base : Base) (journal next : List Entry) (cached : List Input) (files later : List Read) (flags now : List Bool) (opened units opened_then units_then n session : ℕ) (e : Edit) (name : List ℕ) (source : Option Prepared) → IsBoard base journal cached files flags opened units → refusal base journal e ≡ None
    → later ≡ put files (record { name = name; revision = n; source = source }) → n ≡ last_number base journal + 1 → name ≡ (edited 0 e).name → source ≡ (edited 0 e).source → next ≡ journal ++ (record { session = session; edit = e }) ∷ []
    → ((files : List Read) (file : Read) → AreSpelled files → IsSpelled file.source → AreSpelled (put files file)) → ((files : List Read) (file : Read) (name : List ℕ) → file_of (put files file) name ≡ cond (bytes_eq file.name name) file (file_of files name)) → IsSpelled source → length now ≡ length later → AreFlags later cached now → opened_then ≡ count_then true opened e → units_then ≡ count_then (is_unit name) units e → IsProject files → IsBoard base next cached later now opened_then units_then
accepts base journal next cached files later flags now opened units opened_then units_then n session e name source board fine put_is number named with_text more spelled law text len are then_opened then_units project =
    let entry : Entry = record { session = session; edit = e } in
    let last : ℕ = last_number base journal in
    let full : Bool = is_full (length journal) last in
    let under : last_number base journal < 4294967295 = room base journal e fine in
    let longer : length next ≡ length journal + 1 = ap (length {A = Entry}) more ∙ length-append journal (entry ∷ []) in
    let whole : edited (last + 1) e ≡ record { name = name; revision = n; source = source } =
    edited_is (last + 1) e
    ∙ ap (λ (x : List ℕ). record { name = x; revision = last + 1; source = (edited 0 e).source }) (sym named)
    ∙ ap (λ (x : ℕ). record { name = name; revision = x; source = (edited 0 e).source }) (sym number)
    ∙ ap (λ (x : Option Prepared). record { name = name; revision = n; source = x }) (sym with_text)
    in
    record {
      based = board.based;
      few = omega (arith, under, longer);
      legal = subst (IsLegal base) (sym more) (legal_more base journal entry board.legal fine);
      files_are =
          put_is
          ∙ ap (λ (fs : List Read). put fs (record { name = name; revision = n; source = source })) board.files_are
          ∙ ap (put (replay base journal)) (sym whole)
          ∙ sym (replay_more base journal entry)
          ∙ ap (replay base) (sym more);
      spelled = subst AreSpelled (sym put_is) (spelled files (record { name = name; revision = n; source = source }) board.spelled text);
      len = len;
      flags_are = are;
      of_units = board.of_units;
      reported = reported_then files later (record { name = name; revision = n; source = source }) cached (law files (record { name = name; revision = n; source = source })) put_is board.reported (subst (λ (m : ℕ). AreBefore m cached) (sym number) board.before);
      before = before_more (last + 1) (last_number base next + 1) cached (omega (arith, longer)) board.before;
      opened_are =
          then_opened
          ∙ ap (λ (m : ℕ). count_then true m e) board.opened_are
          ∙ sym (open_after files full project (last + 1) e (ap (λ (fs : List Read). refusal_of fs full e) board.files_are ∙ fine))
          ∙ ap (λ (f : Read). open_number (put files f)) whole
          ∙ ap open_number (sym put_is);
      units_are =
          then_units
          ∙ ap (λ (u : List ℕ). count_then (is_unit u) units e) named
          ∙ ap (λ (m : ℕ). count_then (is_unit (edited 0 e).name) m e) board.units_are
          ∙ sym (units_after files full project (last + 1) e (ap (λ (fs : List Read). refusal_of fs full e) board.files_are ∙ fine))
          ∙ ap (λ (f : Read). length (open_units (put files f))) whole
          ∙ ap (λ (fs : List Read). length (open_units fs)) (sym put_is);
    }

-- and one after a checkpoint, whose base is the present project
pub cut_off : (base next : Base) (journal left : List Entry) (cached : List Input) (files : List Read) (flags : List Bool) (opened units : ℕ) → IsBoard base journal cached files flags opened units → next ≡ base_after base journal → left ≡ []
    → IsBoard next left cached files flags opened units
cut_off base next journal left cached files flags opened units board is empty =
    let more : IsBase (base_after base journal) = later base journal board.based in
    let number : base.number + length journal + 0 ≡ base.number + length journal = omega arith in
    let few : base.number + length journal + 0 ≤ 4294967295 = (let f = board.few in omega (arith, f)) in
    subst (λ (b : Base). IsBoard b left cached files flags opened units) (sym is)
    (subst (λ (es : List Entry). IsBoard (base_after base journal) es cached files flags opened units) (sym empty)
    (record {
      based = more;
      few = few;
      legal = tt;
      files_are = board.files_are;
      spelled = board.spelled;
      len = board.len;
      flags_are = board.flags_are;
      of_units = board.of_units;
      reported = board.reported;
      before = subst (λ (n : ℕ). AreBefore (n + 1) cached) (sym number) board.before;
      opened_are = board.opened_are;
      units_are = board.units_are;
    }))
