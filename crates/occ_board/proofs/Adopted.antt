-- A board that caches an outcome more.
use Rattle.std.proofs.Common.{◌≡◌, ◌∙◌, ◌<◌, ◌+◌, ◌⊎◌, Bool, true, false, cond, ℕ, List, length, Option, Some, sym, ap, subst}
use Rattle.std.specs.Str.{bytes_eq}
use Rattle.occ_board.proofs.Accepted.{fewer_pending, cached_other, more_done, now_done}
use Rattle.occ_board.proofs.Looked.{verified_with}
use Rattle.occ_board.proofs.Settled.{flag_at, is_step, step_done, step_cached, step_open, step_rests}
use Rattle.occ_board.proofs.Spread.{placed_there}
use Rattle.occ_board.proofs.Revisions.{before_with, revisions_few, reported_with}
use Rattle.occ_board.specs.Done.{done, done_step, is_cached, is_that, cached_of, pending_units}
use Rattle.occ_board.specs.Journal.{is_open, last_number, replay}
use Rattle.occ_board.specs.Machine.{State, files_of, pending_answer, unhanded, with_cached}
use Rattle.occ_board.specs.declared.base.Base.{Base}
use Rattle.occ_board.specs.declared.entry.Entry.{Entry}
use Rattle.occ_board.specs.inside.Flagged.{IsFullAt, IsSound, flag_of}
use Rattle.occ_board.specs.inside.Verified.{AreVerified, looked, shown_of}
use Rattle.occ_board.specs.inside.Holding.{IsBoard}
use Rattle.occ_board.specs.inside.Ready.{IsAcceptable}
use Rattle.occ_board.specs.inside.Revisions.{AllGivenByRevision, AreBefore}
use Rattle.occ_check.specs.Diagnostics.{interface_of}
use Rattle.occ_check.specs.Input.{Input}
use Rattle.occ_project.specs.Entries.{is_among}
use Rattle.occ_project.specs.declared.reads.Read.{Read}
use Rattle.occ_check.specs.Checks.{input}
use Rattle.occ_project_units.specs.Along.{name_at}
use Rattle.occ_project_units.specs.Indices.{rest_units}
use Rattle.occ_project_units.specs.Project.{IsProject, file_of, put}
use Rattle.occ_project_units.specs.Units.{used_units}

module _ (base : Base) (journal : List Entry) (cached handed : List Input) (s : State) (i : Input) (view : record { base = base; journal = journal; cached = cached; handed = handed } ≡ s) (fit : IsAcceptable (files_of s) s.cached i)
    (better : List Input) (same : better ≡ with_cached cached i) where
  fits : IsAcceptable (replay base journal) cached i
  fits = subst (λ (t : State). IsAcceptable (files_of t) t.cached i) (sym view) fit

  abbrev later : Base → List Entry → List Input → List Input → State
  later b es ks hs = record { base = b; journal = es; cached = ks; handed = hs }

  abbrev state : List Input → List Input → State
  state ks hs = later base journal ks hs

  pub adopted : (left : List Input) (job : Input) → left ≡ unhanded handed job → job ≡ i
      → ◌≡◌ {A = State} (record { base = base; journal = journal; cached = better; handed = left }) (record { base = s.base; journal = s.journal; cached = with_cached s.cached i; handed = unhanded s.handed i })
  adopted left job e j =
      ap (λ (ks : List Input). state ks left) same
      ∙ ap (state (with_cached cached i)) (e ∙ ap (unhanded handed) j)
      ∙ ap (λ (t : State). later t.base t.journal (with_cached t.cached i) (unhanded t.handed i)) view

  -- what was reported of revisions is so of its reads too
  pub reported_still : (files : List Read) (flags : List Bool) (opened units : ℕ) → IsBoard base journal cached files flags opened units → AllGivenByRevision files better
  reported_still files flags opened units board =
      let now : i ≡ input files i.unit = subst (λ (fs : List Read). i ≡ input fs i.unit) (sym board.files_are) fits.now in
      subst (AllGivenByRevision files) (sym same) (reported_with files cached i now board.reported)

  pub before_still : ((files : List Read) (file : Read) (name : List ℕ) → file_of (put files file) name ≡ cond (bytes_eq file.name name) file (file_of files name)) → (files : List Read) (flags : List Bool) (opened units : ℕ)
      → IsBoard base journal cached files flags opened units → AreBefore (last_number base journal + 1) better
  before_still put_law files flags opened units board =
      subst (AreBefore (last_number base journal + 1)) (sym same) (before_with (replay base journal) cached i (last_number base journal + 1) fits.now (revisions_few put_law base journal board.based) board.before)

  -- the unit is open
  pub opened_still : (files : List Read) (flags : List Bool) (opened units : ℕ) → IsBoard base journal cached files flags opened units → (unit : List ℕ) → unit ≡ i.unit → is_open files unit ≡ true
  opened_still files flags opened units board unit named = ap (λ (fs : List Read). is_open fs unit) board.files_are ∙ ap (is_open (replay base journal)) named ∙ fits.job.opened

  module _ (law : (files : List Read) (cached : List Input) (u : List ℕ) → IsProject files → done files cached u ≡ done_step files cached u (done files cached))
      (project : IsProject (replay base journal))
      (heights : (files : List Read) → IsProject files → (height : List ℕ → ℕ) × ((u v : List ℕ) → is_among (rest_units files u) v ≡ true → height v < height u)) where
    -- what was done stays so
    pub sound_still : (files : List Read) (flags : List Bool) (opened units : ℕ) → IsBoard base journal cached files flags opened units → IsSound files better flags
    sound_still files flags opened units board u h =
        let high = heights (replay base journal) project in
        let was : done (replay base journal) cached u ≡ true = ap (λ (fs : List Read). done fs cached u) (sym board.files_are) ∙ sym (board.flags_are u) ∙ h in
        ap (λ (fs : List Read). done fs better u) board.files_are
        ∙ ap (λ (ks : List Input). done (replay base journal) ks u) same
        ∙ more_done (replay base journal) (λ ks v. law (replay base journal) ks v project) high.0 high.1 cached i fits.now u was

    -- the unit is done
    pub done_now : (files : List Read) (flags : List Bool) (opened units : ℕ) → IsBoard base journal cached files flags opened units → done files better i.unit ≡ true
    done_now files flags opened units board =
        let high = heights (replay base journal) project in
        ap (λ (fs : List Read). done fs better i.unit) board.files_are
        ∙ ap (λ (ks : List Input). done (replay base journal) ks i.unit) same
        ∙ now_done (replay base journal) (λ ks v. law (replay base journal) ks v project) high.0 high.1 cached i fits.now fits.job.opened fits.job.rested

    -- and verified, as those are still that looked at the same of it
    pub verified_still : (files : List Read) (flags : List Bool) (opened units : ℕ) → IsBoard base journal cached files flags opened units → (verified next : List Bool) (shown : Bool) (unit : List ℕ) → unit ≡ i.unit
        → ((fs : List Read) (ks : List Input) (u : List ℕ) → IsProject fs → done fs ks u ≡ true → cached_of ks u ≡ Some (looked fs ks u)) → AreVerified files cached verified
        → ((u : List ℕ) → flag_of files next u ≡ true → (flag_of files verified u ≡ true) × ((shown ≡ true) ⊎ (is_among (used_units files u) unit ≡ false))) → (shown ≡ true → interface_of i ≡ shown_of s.cached i.unit) → AreVerified files better next
    verified_still files flags opened units board verified next shown unit named now are left shows =
        let ordered : IsProject files = subst IsProject (sym board.files_are) project in
        let here : cached_of (with_cached cached i) i.unit ≡ Some (looked files (with_cached cached i) i.unit) =
        now files (with_cached cached i) i.unit ordered (subst (λ (ks : List Input). done files ks i.unit ≡ true) same (done_now files flags opened units board))
        in
        subst (λ (ks : List Input). AreVerified files ks next) (sym same)
        (verified_with files cached i verified next shown are (subst (λ (v : List ℕ). (u : List ℕ) → flag_of files next u ≡ true → (flag_of files verified u ≡ true) × ((shown ≡ true) ⊎ (is_among (used_units files u) v ≡ false))) named left)
        (λ h. shows h ∙ ap (λ (t : State). shown_of t.cached i.unit) (sym view)) here)

    -- and of no unit but this one a flag is missing
    pub full_still : (files : List Read) (flags : List Bool) (opened units : ℕ) → IsBoard base journal cached files flags opened units → (p : ℕ) → p < length files → bytes_eq i.unit (name_at files p) ≡ false → IsFullAt files better flags p
    full_still files flags opened units board p lt other h =
        let u : List ℕ = name_at files p in
        let ordered : IsProject files = subst IsProject (sym board.files_are) project in
        let have : done_step files (with_cached cached i) u (flag_of files flags) ≡ true = sym (ap (λ (ks : List Input). done_step files ks u (flag_of files flags)) same) ∙ h in
        let was : is_cached cached (input files u) ≡ true = sym (ap (λ (o : Option Input). is_that o (input files u)) (cached_other cached i u other)) ∙ step_cached files (with_cached cached i) u (flag_of files flags) have in
        let step : done_step files cached u (flag_of files flags) ≡ true =
        is_step files cached u (flag_of files flags) (step_open files (with_cached cached i) u (flag_of files flags) have) was (step_rests files (with_cached cached i) u (flag_of files flags) have)
        in
        let is : done files cached u ≡ true = step_done files cached (λ v. law files cached v ordered) flags u (λ v k. sym (board.flags_are v) ∙ k) step in
        sym (flag_at files flags u p (placed_there files cached ordered p lt)) ∙ board.flags_are u ∙ is

    -- and one unit more is done
    pub fewer_left : (left : List Input) → pending_answer (record { base = base; journal = journal; cached = better; handed = left }) < pending_answer s
    fewer_left left =
        let high = heights (replay base journal) project in
        let less : length (pending_units (replay base journal) (with_cached cached i)) < length (pending_units (replay base journal) cached) =
        fewer_pending (replay base journal) (λ ks v. law (replay base journal) ks v project) high.0 high.1 cached i fits.now fits.job.unit fits.job.opened fits.job.rested fits.other in
        subst (λ (t : State). pending_answer (record { base = base; journal = journal; cached = better; handed = left }) < pending_answer t) view
        (subst (λ (ks : List Input). length (pending_units (replay base journal) ks) < length (pending_units (replay base journal) cached)) (sym same) less)
