-- What an edit does not concern that puts a file where none was. It is found by the files after the edit.
use Rattle.std.proofs.Common.{◌≡◌, ◌∙◌, ◌<◌, ◌≤◌, ◌+◌, ◌&&◌, ◌⊎◌, ℕ, Bool, true, false, cond, not, List, [], ◌∷◌, length, get_or, Option, Some, None, refl, sym, ap, subst, inl, inr, arith}
use Rattle.std.proofs.lemmas.List.Edits.{length-insert}
use Rattle.std.proofs.lemmas.Slice.Eq.{bytes_eq-Decides}
use Rattle.std.specs.List.{insert}
use Rattle.std.specs.Option.{is_some, option_map}
use Rattle.std.specs.Str.{bytes_eq}
use Rattle.occ_base.specs.FileName.{is_unit}
use Rattle.occ_board.proofs.Apart.{under_on}
use Rattle.occ_board.proofs.Judged.{file_source}
use Rattle.occ_board.proofs.Looked.{false_by, new_verified, one_index}
use Rattle.occ_board.proofs.Marked.{left_by, no_input, no_unit_step, unmarked_apart}
use Rattle.occ_board.proofs.Newly.{flag_then}
use Rattle.occ_board.proofs.Settled.{flag_at, no_flag, step_done}
use Rattle.occ_board.proofs.Spread.{placed_there}
use Rattle.occ_board.proofs.Truths.{not_both}
use Rattle.occ_board.specs.Done.{done, done_step, is_cached}
use Rattle.occ_board.specs.Edits.{IsApart, IsUnder}
use Rattle.occ_board.specs.inside.Flagged.{AreFlags, IsFullAt, IsSound, flag_of}
use Rattle.occ_board.specs.inside.Touched.{IsClosed}
use Rattle.occ_board.specs.inside.Untouched.{AreFlagsOfOthers, AreVerifiedOfOthers, IsUntouched}
use Rattle.occ_board.specs.inside.Verified.{AreVerified, cached_check, looked}
use Rattle.occ_check.specs.Input.{Input}
use Rattle.occ_project_graph.specs.Adding.{raised}
use Rattle.occ_project_graph.specs.Graph.{is_among as is_index}
use Rattle.occ_project.specs.Entries.{is_among}
use Rattle.occ_project.specs.Expansion.{Expansion, expansion}
use Rattle.occ_project.specs.Reads.{index, open_source}
use Rattle.occ_project.specs.Uses.{used_in}
use Rattle.occ_project.specs.declared.reads.Read.{Read}
use Rattle.occ_project_units.proofs.Added.{gap_long, gap_new, gap_then}
use Rattle.occ_project_units.specs.Along.{name_at}
use Rattle.occ_project_units.specs.Indices.{graph_of, readers_at}
use Rattle.occ_project_units.specs.New.{IsGap}
use Rattle.occ_project_units.specs.Project.{IsProject, file_of, put}
use Rattle.occ_project_units.specs.Spelled.{AreSpelled}
use Rattle.occ_project_units.specs.Units.{Uses, UsesBy, read_names, used_units}

-- a unit that is apart from a file where other files are as before was so before
module _ (files later : List Read) (name root : List ℕ) (apart : IsApart later name root)
    (others : (n : List ℕ) → bytes_eq name n ≡ false → file_of later n ≡ file_of files n)
    (alone : (fs more : List Read) (unit : List ℕ) → ((n : List ℕ) → is_among (expansion fs unit).reads n ≡ true → open_source more n ≡ open_source fs n) → expansion more unit ≡ expansion fs unit) where
  other_name : (v n : List ℕ) → IsUnder later root v → is_among (expansion later v).reads n ≡ true → bytes_eq name n ≡ false
  other_name v n under a = false_by (bytes_eq name n) (λ e. not_both (is_among (expansion later v).reads name) (ap (is_among (expansion later v).reads) ((bytes_eq-Decides name n).0 e) ∙ a) (apart v under))

  same_expansion : (v : List ℕ) → IsUnder later root v → expansion files v ≡ expansion later v
  same_expansion v under = alone later files v (λ n a. sym (file_source files n) ∙ ap (λ (r : Read). r.source) (sym (others n (other_name v n under a))) ∙ file_source later n)

  same_used : (v : List ℕ) → IsUnder later root v → used_units later v ≡ used_units files v
  same_used v under = ap (λ (e : Expansion). cond (is_unit v) (used_in e.lines) []) (sym (same_expansion v under))

  way_then : (v : List ℕ) (ws : List (List ℕ)) (w : List ℕ) → IsUnder later root v → UsesBy files v ws w → UsesBy later v ws w
  way_then v [] w under h = ap (λ (us : List (List ℕ)). is_among us w) (same_used v under) ∙ h
  way_then v (x ∷ ws) w under h =
      let first : Uses later v x = ap (λ (us : List (List ℕ)). is_among us x) (same_used v under) ∙ h.0 in
      (first, way_then x ws w (under_on later root v x under first) h.1)

  under_then : (v : List ℕ) → IsUnder files root v → IsUnder later root v
  under_then v (inl e) = inl e
  under_then v (inr way) = inr (way.0, way_then root way.0 v (inl refl) way.1)

  pub apart_before : IsApart files name root
  apart_before v under = ap (λ (e : Expansion). is_among e.reads name) (same_expansion v (under_then v under)) ∙ apart v (under_then v under)

-- what is not marked is not concerned
module _ (files : List Read) (project : IsProject files) (name : List ℕ) (at : ℕ) (marks : List Bool) (e : index name files ≡ Some at) (readers : (p : ℕ) → is_index (readers_at files at) p ≡ true → get_or marks p false ≡ true)
    (flags : List Bool) (closed : IsClosed (graph_of files) flags true marks) (here : get_or marks at false ≡ true)
    (reading : (fs : List Read) (p q : ℕ) → IsProject fs → p < length fs → q < length fs → is_index (readers_at fs q) p ≡ is_among (read_names fs (name_at fs p)) (name_at fs q))
    (spelled : AreSpelled files) (units : (fs : List Read) (u v : List ℕ) → AreSpelled fs → Uses fs u v → is_unit v ≡ true) where
  abbrev IsUnmarked : List ℕ → Type 0
  IsUnmarked u = (q : ℕ) → index u files ≡ Some q → get_or marks q false ≡ false

  untouched : (u : List ℕ) → IsUnmarked u → IsUntouched files name u
  untouched u h = record {
    other = false_by (bytes_eq name u) (λ k. let none = h at (ap (λ (n : List ℕ). index n files) (sym ((bytes_eq-Decides name u).0 k)) ∙ e) in cc (none, here));
    apart = λ unit. unmarked_apart files project name at marks e readers flags closed (reading files) (λ v w. units files v w spelled) u unit h;
  }

  at_only : (u : List ℕ) (p : ℕ) → index u files ≡ Some p → get_or marks p false ≡ false → IsUnmarked u
  at_only u p i m q f = subst (λ (x : ℕ). get_or marks x false ≡ false) (one_index p q (sym i ∙ f)) m

  module _ (cached : List Input) (was next : List Bool) (left : (p : ℕ) → get_or next p false ≡ (get_or was p false && not (get_or marks p false))) where
    left_at : (u : List ℕ) (p : ℕ) → index u files ≡ Some p → flag_of files next u ≡ true → (flag_of files was u ≡ true) × IsUntouched files name u
    left_at u p i h =
        let parts = left_by (get_or was p false) (get_or marks p false) (sym (left p) ∙ sym (flag_at files next u p i) ∙ h) in
        (flag_at files was u p i ∙ parts.0, untouched u (at_only u p i parts.1))

    left_there : (u : List ℕ) → flag_of files next u ≡ true → (flag_of files was u ≡ true) × IsUntouched files name u
    left_there u h = by (index u files) refl where
      by : (o : Option ℕ) → index u files ≡ o → (flag_of files was u ≡ true) × IsUntouched files name u
      by None i = let none = no_flag files next u i in absurd (cc (none, h))
      by (Some p) i = left_at u p i h

    pub left_verified : AreVerifiedOfOthers files cached was name → AreVerified files cached next
    left_verified are u h = let there = left_there u h in are u there.1 there.0

    module _ (right : AreFlagsOfOthers files cached was name) where
      pub left_sound : IsSound files cached next
      left_sound u h = let there = left_there u h in sym (right u there.1) ∙ there.0

      pub left_full : ((u : List ℕ) → done files cached u ≡ done_step files cached u (done files cached)) → (p : ℕ) → p < length files → get_or marks p false ≡ false → IsFullAt files cached next p
      left_full law p lt m h =
          let u : List ℕ = name_at files p in
          let i : index u files ≡ Some p = placed_there files cached project p lt in
          let is : done files cached u ≡ true = step_done files cached law next u left_sound h in
          let flag : get_or was p false ≡ true = sym (flag_at files was u p i) ∙ right u (untouched u (at_only u p i m)) ∙ is in
          left p ∙ ap (λ (b : Bool). b && not (get_or marks p false)) flag ∙ ap not m

-- what is known of others, where a file comes to an index
module _ (files later : List Read) (file : Read) (at : ℕ) (project : IsProject files) (gap : IsGap file.name files at) (put_is : later ≡ put files file) (cached : List Input)
    (files_put : (fs : List Read) (f : Read) (n : List ℕ) → file_of (put fs f) n ≡ cond (bytes_eq f.name n) f (file_of fs n))
    (alone : (fs more : List Read) (unit : List ℕ) → ((n : List ℕ) → is_among (expansion fs unit).reads n ≡ true → open_source more n ≡ open_source fs n) → expansion more unit ≡ expansion fs unit) where
  pub then_placed : index file.name later ≡ Some at
  then_placed = ap (index file.name) put_is ∙ gap_new files file at gap

  placed_then : (u : List ℕ) → bytes_eq file.name u ≡ false → index u later ≡ option_map (raised at) (index u files)
  placed_then u other = ap (index u) put_is ∙ gap_then files file at gap u other

  same_file : (n : List ℕ) → bytes_eq file.name n ≡ false → file_of later n ≡ file_of files n
  same_file n other = ap (λ (fs : List Read). file_of fs n) put_is ∙ files_put files file n ∙ ap (λ (b : Bool). cond b file (file_of files n)) other

  was_apart : (u : List ℕ) → IsUntouched later file.name u → is_unit u ≡ true → IsApart files file.name u
  was_apart u un unit = apart_before files later file.name u (un.apart unit) same_file alone

  module _ (flags next : List Bool) (len : length flags ≡ length files) (n : next ≡ insert flags at false) where
    room : at ≤ length flags
    room = let within = gap.within in omega (arith, within, len)

    pub then_long : length next ≡ length later
    then_long = ap (length {A = Bool}) n ∙ length-insert flags at false room ∙ ap (λ (m : ℕ). m + 1) len ∙ sym (ap (length {A = Read}) put_is ∙ gap_long files file at gap)

  -- the flag of another is what it was
  flag_stays : (flags next : List Bool) → at ≤ length flags → next ≡ insert flags at false → (u : List ℕ) → bytes_eq file.name u ≡ false → flag_of later next u ≡ flag_of files flags u
  flag_stays flags next le n u other = by (index u files) refl where
    by : (o : Option ℕ) → index u files ≡ o → flag_of later next u ≡ flag_of files flags u
    by None e = no_flag later next u (placed_then u other ∙ ap (option_map (raised at)) e) ∙ sym (no_flag files flags u e)
    by (Some q) e =
        flag_at later next u (raised at q) (placed_then u other ∙ ap (option_map (raised at)) e)
        ∙ ap (λ (fs : List Bool). get_or fs (raised at q) false) n
        ∙ flag_then flags at le q
        ∙ sym (flag_at files flags u q e)

  module _ (apart : (fs : List Read) (f : Read) (ks : List Input) (u : List ℕ) → IsProject fs → IsApart fs f.name u → done (put fs f) ks u ≡ done fs ks u)
      (rises : (fs : List Read) (f : Read) → IsProject fs → IsProject (put fs f)) (step : (fs : List Read) (ks : List Input) (u : List ℕ) → IsProject fs → done fs ks u ≡ done_step fs ks u (done fs ks)) where
    same_done : (u : List ℕ) → IsUntouched later file.name u → done later cached u ≡ done files cached u
    same_done u un = by (is_unit u) refl where
      by : (b : Bool) → is_unit u ≡ b → done later cached u ≡ done files cached u
      by true unit = ap (λ (fs : List Read). done fs cached u) put_is ∙ apart files file cached u project (was_apart u un unit)
      by false none =
          no_unit_step cached step later u none (subst IsProject (sym put_is) (rises files file project))
          ∙ ap (λ (b : Bool). b && (is_cached cached (record { unit = u; reads = []; used = [] }) && true)) (ap (λ (f : Read). is_some f.source) (same_file u un.other))
          ∙ sym (no_unit_step cached step files u none project)

    pub then_flags : (flags next : List Bool) → length flags ≡ length files → AreFlags files cached flags → next ≡ insert flags at false → AreFlagsOfOthers later cached next file.name
    then_flags flags next len are n u un = flag_stays flags next (room flags next len n) n u un.other ∙ are u ∙ sym (same_done u un)

  pub then_verified : ((fs : List Read) (f : Read) (ks : List Input) (u : List ℕ) → IsApart fs f.name u → looked (put fs f) ks u ≡ looked fs ks u) → (verified next : List Bool) → AreVerified files cached verified
      → ((at ≤ length verified) × (next ≡ insert verified at false)) ⊎ (next ≡ []) → AreVerifiedOfOthers later cached next file.name
  then_verified law verified next are (inr none) u un h = new_verified later cached next none u h
  then_verified law verified next are (inl both) u un h =
      are u (sym (flag_stays verified next both.0 both.1 u un.other) ∙ h) ∙ ap (λ (x : Input). Some x) (same_looked (is_unit u) refl) where
        same_looked : (b : Bool) → is_unit u ≡ b → looked files cached u ≡ looked later cached u
        same_looked true unit = sym (ap (λ (fs : List Read). looked fs cached u) put_is ∙ law files file cached u (was_apart u un unit))
        same_looked false none = no_input files (cached_check cached) u none ∙ sym (no_input later (cached_check cached) u none)
