-- Work alone makes fewer units pending: each outcome that is accepted one at least.
use Rattle.std.proofs.Common.{◌≡◌, ◌∙◌, ◌<◌, ◌≤◌, ◌+◌, Bool, true, false, ℕ, List, [], ◌∷◌, length, map, Option, Some, None, refl, sym, ap, subst, arith, nat_eq, if◌then◌else◌}
use Rattle.std.proofs.lemmas.Bool.{eqb-true}
use Rattle.std.proofs.lemmas.Slice.Eq.{bytes_eq-Decides}
use Rattle.std.specs.List.{AllByRecursion, find}
use Rattle.std.specs.Option.{option_map}
use Rattle.occ_board.proofs.Accepted.{fewer_pending}
use Rattle.occ_board.proofs.Judged.{acceptable, never_accepted, now_of}
use Rattle.occ_board.proofs.Indices.{file_named}
use Rattle.occ_board.proofs.Truths.{left_true, right_true}
use Rattle.occ_board.specs.Done.{done, done_step, is_cached, pending_units}
use Rattle.occ_board.specs.Journal.{IsBase, replay}
use Rattle.occ_board.specs.Machine.{Answer, Event, IsChecked, IsWork, State, accepted_number, after, after_all, answer, cached_after, files_of, finish_answer, is_acceptance, number_of, pending_answer}
use Rattle.occ_board.specs.Verdicts.{is_as_read, is_off, off_read, or_else, reads_verdict, same_text, uses_verdict, verdict_of}
use Rattle.occ_board.specs.declared.base.Base.{Base}
use Rattle.occ_board.specs.declared.entry.Entry.{Entry}
use Rattle.occ_board.specs.declared.verdict.Verdict.{Verdict}
use Rattle.occ_board.specs.declared.verdict.Verdict.TheVariants as verdict
use Rattle.occ_board.specs.inside.Ready.{IsAcceptable}
use Rattle.occ_check.specs.Input.{Input}
use Rattle.occ_check.specs.declared.used.UsedUnit.{UsedUnit}
use Rattle.occ_forms.specs.Prepared.{IsPrepared, Prepared}
use Rattle.occ_forms.specs.declared.source.SourceLine.{SourceLine}
use Rattle.occ_project.specs.Entries.{is_among}
use Rattle.occ_project.specs.Expansion.{expansion}
use Rattle.occ_project.specs.Reads.{open_source}
use Rattle.occ_project.specs.declared.reads.Read.{Read}
use Rattle.occ_project_units.specs.Indices.{rest_units}
use Rattle.occ_project_units.specs.Project.{IsProject, file_of}
use Rattle.occ_project_units.specs.Spelled.{AreSpelled, IsSpelled}

module _ (source : (text : List ℕ) (lines others : List SourceLine) → IsPrepared text lines → IsPrepared text others → lines ≡ others) where
  -- with one text two files have the same lines
  same_source : (a b : Option Prepared) → IsSpelled a → IsSpelled b → same_text a b ≡ true → a ≡ b
  same_source None None h k e = refl
  same_source (Some a) None h k e = absurd cc
  same_source None (Some b) h k e = absurd cc
  same_source (Some a) (Some b) h k e =
      let text : a.text ≡ b.text = (bytes_eq-Decides a.text b.text).0 e in
      let lines : a.lines ≡ b.lines = source b.text a.lines b.lines (subst (λ (t : List ℕ). IsPrepared t a.lines) text h) k in
      ap (λ (t : List ℕ). Some (record { text = t; lines = a.lines })) text ∙ ap (λ (ls : List SourceLine). Some (record { text = b.text; lines = ls })) lines

  as_read : (files : List Read) (read : Read) → AreSpelled files → IsSpelled read.source → is_as_read read (file_of files read.name) ≡ true → read ≡ now_of files read
  as_read files read spelled here e =
      let file = file_of files read.name in
      let revision : read.revision ≡ file.revision = eqb-true read.revision file.revision (left_true (nat_eq read.revision file.revision) (same_text read.source file.source) e) in
      let text : read.source ≡ file.source = same_source read.source file.source here (spelled read.name) (right_true (nat_eq read.revision file.revision) (same_text read.source file.source) e) in
      ap (λ (n : List ℕ). record { name = n; revision = read.revision; source = read.source }) (sym (file_named files read.name))
      ∙ ap (λ (n : ℕ). record { name = file.name; revision = n; source = read.source }) revision
      ∙ ap (λ (s : Option Prepared). record { name = file.name; revision = file.revision; source = s }) text

  all_read : (files : List Read) (accepted : ℕ) (reads : List Read) → AreSpelled files → AllByRecursion (λ read. IsSpelled read.source) reads → reads_verdict files accepted reads ≡ None → reads ≡ map (now_of files) reads
  all_read files accepted [] spelled h e = refl
  all_read files accepted (read ∷ reads) spelled h e = by (is_as_read read (file_of files read.name)) refl e (all_read files accepted reads spelled h.1) where
    by : (b : Bool) → is_as_read read (file_of files read.name) ≡ b → (if b then reads_verdict files accepted reads else Some (off_read accepted read (file_of files read.name))) ≡ None → (reads_verdict files accepted reads ≡ None → reads ≡ map (now_of files) reads) → (read ∷ reads) ≡ map (now_of files) (read ∷ reads)
    by true k n rest = ap (λ (r : Read). r ∷ reads) (as_read files read spelled h.0 k) ∙ ap (λ (rs : List Read). now_of files read ∷ rs) (rest n)
    by false k n rest = absurd cc

  -- what is accepted was decided by nothing
  nothing_by : (a b : Option Verdict) (k : Bool) → ((v : Verdict) → Some v ≡ a → v ≡ verdict.Accepted → ⊥) → ((v : Verdict) → Some v ≡ b → v ≡ verdict.Accepted → ⊥)
      → or_else a (or_else b (if k then verdict.Repeated else verdict.Accepted)) ≡ verdict.Accepted → (a ≡ None) × ((b ≡ None) × (k ≡ false))
  nothing_by (Some v) b k f g e = absurd (f v refl e)
  nothing_by None (Some v) k f g e = absurd (g v refl e)
  nothing_by None None true f g e = absurd cc
  nothing_by None None false f g e = (refl, (refl, refl))

  never_stale : (o : Option UsedUnit) (v : Verdict) → Some v ≡ option_map (λ one. verdict.Stale one.unit) o → v ≡ verdict.Accepted → ⊥
  never_stale None v e h = absurd cc
  never_stale (Some one) v e h = absurd cc

  module _ (alone : (fs others : List Read) (unit : List ℕ) → ((name : List ℕ) → is_among (expansion fs unit).reads name ≡ true → open_source others name ≡ open_source fs name) → expansion others unit ≡ expansion fs unit)
      (itself : (fs : List Read) (unit : List ℕ) → is_among (expansion fs unit).reads unit ≡ true) where
    fits : (files : List Read) (accepted : ℕ) (cached : List Input) (i : Input) → AreSpelled files → IsChecked i → verdict_of files accepted cached i ≡ verdict.Accepted → IsAcceptable files cached i
    fits files accepted cached i spelled is e =
        let parts = nothing_by (reads_verdict files accepted i.reads) (uses_verdict files cached i) (is_cached cached i) (never_accepted files accepted i.reads) (never_stale (find (is_off files cached i.unit) i.used)) e in
        acceptable files cached i i.used i.unit false is.0 refl refl (all_read files accepted i.reads spelled is.1 parts.0) (sym parts.1.0) (sym parts.1.1) alone itself

    module _ (project : (base : Base) (es : List Entry) → IsBase base → IsProject (replay base es)) (law : (files : List Read) (cached : List Input) (u : List ℕ) → IsProject files → done files cached u ≡ done_step files cached u (done files cached))
        (heights : (files : List Read) → IsProject files → (height : List ℕ → ℕ) × ((u v : List ℕ) → is_among (rest_units files u) v ≡ true → height v < height u)) where
      finished : (s : State) (i : Input) → IsBase s.base → AreSpelled (files_of s) → IsChecked i → pending_answer (after s (Event.Finish i)) + (if is_acceptance (answer s (Event.Finish i)) then 1 else 0) ≤ pending_answer s
      finished s i based spelled is = by (finish_answer s i) refl where
        files : List Read
        files = files_of s

        by : (v : Verdict) → finish_answer s i ≡ v → length (pending_units files (cached_after v s.cached i)) + (if is_acceptance (Answer.Judged v) then 1 else 0) ≤ length (pending_units files s.cached)
        by verdict.Accepted e =
            let fit = fits files (number_of s) s.cached i spelled is e in
            let high = heights files (project s.base s.journal based) in
            let less = fewer_pending files (λ ks v. law files ks v (project s.base s.journal based)) high.0 high.1 s.cached i fit.now fit.job.unit fit.job.opened fit.job.rested fit.other in
            omega (arith, less)
        by verdict.Repeated e = omega arith
        by (verdict.Stale name) e = omega arith
        by (verdict.Foreign name) e = omega arith

      event : (s : State) (e : Event) → IsBase s.base → AreSpelled (files_of s) → IsWork e → (pending_answer (after s e) + (if is_acceptance (answer s e) then 1 else 0) ≤ pending_answer s) × AreSpelled (files_of (after s e))
      event s (Event.Edited session e) based spelled h = absurd h
      event s Event.Take based spelled h = (omega arith, spelled)
      event s (Event.Finish i) based spelled h = (finished s i based spelled h, spelled)
      event s (Event.Abandon i) based spelled h = (omega arith, spelled)
      event s Event.Checkpoint based spelled h = (omega arith, spelled)
      event s Event.Report based spelled h = (omega arith, spelled)
      event s Event.Pending based spelled h = (omega arith, spelled)

      pub worked : ((s : State) (event : Event) → IsBase s.base → IsBase (after s event).base) → (s : State) (es : List Event) → IsBase s.base → AreSpelled (files_of s) → AllByRecursion IsWork es → pending_answer (after_all s es) + accepted_number s es ≤ pending_answer s
      worked still s [] based spelled h = omega arith
      worked still s (e ∷ es) based spelled h =
          let first = event s e based spelled h.0 in
          let rest = worked still (after s e) es (still s e based) first.1 h.1 in
          omega (arith, first.0, rest)
