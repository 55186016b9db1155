-- What an edit leaves.
use Rattle.std.proofs.Common.{◌≡◌, ◌↔◌, ◌∙◌, ◌<◌, ◌+◌, true, cond, ℕ, List, Option, Some, None, refl, sym, ap, subst}
use Rattle.std.specs.Str.{bytes_eq}
use Rattle.occ_board.proofs.Apart.{same_done_there, same_input_there}
use Rattle.occ_board.proofs.Edits.{edited_is, replay_more}
use Rattle.occ_board.specs.Done.{done, done_step}
use Rattle.occ_board.specs.Edits.{IsApart}
use Rattle.occ_board.specs.Journal.{IsBase, edited, last_number, replay}
use Rattle.occ_board.specs.Machine.{Event, State, after, after_edit, edit_answer, files_of}
use Rattle.occ_board.specs.declared.base.Base.{Base}
use Rattle.occ_board.specs.declared.entry.Edit.{Edit}
use Rattle.occ_board.specs.declared.entry.EditFault.{EditFault}
use Rattle.occ_board.specs.declared.entry.Entry.{Entry}
use Rattle.occ_check.specs.Input.{Input}
use Rattle.occ_project.specs.Entries.{is_among}
use Rattle.occ_project.specs.Expansion.{expansion}
use Rattle.occ_project.specs.Reads.{open_source}
use Rattle.occ_project.specs.declared.reads.Read.{Read}
use Rattle.occ_check.specs.Checks.{check_step, checked, input}
use Rattle.occ_project_units.specs.Indices.{is_circular, rest_units}
use Rattle.occ_project_units.specs.Project.{IsProject, file_of, put}
use Rattle.occ_project_units.specs.Units.{IsCircular}

module _ (put_is : (files : List Read) (file : Read) (name : List ℕ) → file_of (put files file) name ≡ cond (bytes_eq file.name name) file (file_of files name))
    (put_rises : (files : List Read) (file : Read) → IsProject files → IsProject (put files file))
    (alone : (fs others : List Read) (unit : List ℕ) → ((name : List ℕ) → is_among (expansion fs unit).reads name ≡ true → open_source others name ≡ open_source fs name) → expansion others unit ≡ expansion fs unit)
    (itself : (fs : List Read) (unit : List ℕ) → is_among (expansion fs unit).reads unit ≡ true)
    (circles : (fs : List Read) (u v : List ℕ) → (is_circular fs u v ≡ true) ↔ IsCircular fs u v)
    (heights : (files : List Read) → IsProject files → (height : List ℕ → ℕ) × ((u v : List ℕ) → is_among (rest_units files u) v ≡ true → height v < height u))
    (project : (base : Base) (es : List Entry) → IsBase base → IsProject (replay base es))
    (step : (files : List Read) → IsProject files → (u : List ℕ) → checked files u ≡ check_step files u (checked files)) where
  same_inputs : (files : List Read) (file : Read) (u : List ℕ) → IsProject files → IsApart files file.name u → input (put files file) u ≡ input files u
  same_inputs files file u h apart =
      let high = heights files h in
      same_input_there files file u apart (put_is files file) alone itself circles high.0 high.1 (step files h) (step (put files file) (put_rises files file h))

  by_answer : {X : Type 0} (f : List Read → X) (s : State) (session : ℕ) (e : Edit) → ((file : Read) → file.name ≡ (edited 0 e).name → f (put (files_of s) file) ≡ f (files_of s)) → f (files_of (after s (Event.Edited session e))) ≡ f (files_of s)
  by_answer f s session e same = by (edit_answer s e) where
    named : (edited (last_number s.base s.journal + 1) e).name ≡ (edited 0 e).name
    named = ap (λ (file : Read). file.name) (edited_is (last_number s.base s.journal + 1) e)

    by : (answer : Option EditFault) → f (files_of (after_edit answer s session e)) ≡ f (files_of s)
    by None = ap f (replay_more s.base s.journal (record { session = session; edit = e })) ∙ same (edited (last_number s.base s.journal + 1) e) named
    by (Some fault) = refl

  pub same_input_later : (s : State) (session : ℕ) (e : Edit) (u : List ℕ) → IsBase s.base → IsApart (files_of s) (edited 0 e).name u → input (files_of (after s (Event.Edited session e))) u ≡ input (files_of s) u
  same_input_later s session e u based apart = by_answer (λ files. input files u) s session e (λ file n. same_inputs (files_of s) file u (project s.base s.journal based) (subst (λ (name : List ℕ). IsApart (files_of s) name u) (sym n) apart))

  module _ (done_step_is : (files : List Read) (cached : List Input) (u : List ℕ) → IsProject files → done files cached u ≡ done_step files cached u (done files cached)) where
    pub same_dones : (files : List Read) (file : Read) (cached : List Input) (u : List ℕ) → IsProject files → IsApart files file.name u → done (put files file) cached u ≡ done files cached u
    same_dones files file cached u h apart =
        let high = heights files h in
        let later = put_rises files file h in
        same_done_there files file u apart (put_is files file) alone itself circles high.0 high.1 (step files h) (step (put files file) later) cached (λ v. done_step_is files cached v h) (λ v. done_step_is (put files file) cached v later)

    pub same_done_later : (s : State) (session : ℕ) (e : Edit) (u : List ℕ) → IsBase s.base → IsApart (files_of s) (edited 0 e).name u → done (files_of (after s (Event.Edited session e))) s.cached u ≡ done (files_of s) s.cached u
    same_done_later s session e u based apart = by_answer (λ files. done files s.cached u) s session e (λ file n. same_dones (files_of s) file s.cached u (project s.base s.journal based) (subst (λ (name : List ℕ). IsApart (files_of s) name u) (sym n) apart))
