-- An edit of a file after which units stand to each other as before: of those that do not read it, and rest on none that does by units
-- that are done, those are done that were.
use Rattle.std.proofs.Common.{◌≡◌, ◌∙◌, ◌&&◌, ◌<◌, ℕ, Bool, true, false, cond, not, List, length, get_or, Option, Some, None, refl, sym, ap, subst}
use Rattle.std.specs.List.{filter, list_all, slice_get}
use Rattle.std.proofs.lemmas.Slice.Eq.{bytes_eq-Decides}
use Rattle.std.specs.Str.{bytes_eq}
use Rattle.occ_board.proofs.Apart.{among_all, same_filter}
use Rattle.occ_board.proofs.Heights.{along_rests}
use Rattle.occ_board.proofs.Indices.{at_index, filed, named, open_index, placed}
use Rattle.occ_board.proofs.Looked.{false_by, looked_still, one_index, same_names, same_standing, unread_at}
use Rattle.occ_board.proofs.Marked.{left_by}
use Rattle.occ_board.proofs.Settled.{flag_at, is_step, no_flag, rests_done, step_cached, step_open, step_rests}
use Rattle.occ_board.proofs.Spread.{placed_there}
use Rattle.occ_board.proofs.Truths.{all_by, both_true, left_true, right_true}
use Rattle.occ_board.specs.Done.{done, done_step, is_cached}
use Rattle.occ_board.specs.inside.Flagged.{AreFlags, IsFullAt, IsSound, flag_of}
use Rattle.occ_board.specs.inside.Ready.{is_ready, is_rested}
use Rattle.occ_board.specs.inside.Touched.{IsClosed}
use Rattle.occ_board.specs.inside.Verified.{looked}
use Rattle.occ_check.specs.Checks.{input}
use Rattle.occ_check.specs.Input.{Input}
use Rattle.occ_check.specs.Report.{is_open_unit}
use Rattle.occ_project_graph.specs.Graph.{is_among as is_index}
use Rattle.occ_project.specs.Entries.{is_among}
use Rattle.occ_project.specs.Expansion.{expansion}
use Rattle.occ_project.specs.Reads.{index, open_source}
use Rattle.occ_project.specs.declared.reads.Read.{Read}
use Rattle.occ_project_units.proofs.Edges.{edge}
use Rattle.occ_project_units.proofs.Renewed.{still_long, still_placed}
use Rattle.occ_project_units.specs.Alike.{AreAlike}
use Rattle.occ_project_units.specs.Along.{name_at}
use Rattle.occ_project_units.specs.Indices.{graph_of, is_below, readers_at, rest_units, standing_of}
use Rattle.occ_project_units.specs.Project.{IsProject, file_of, put}
use Rattle.occ_project_units.specs.Units.{Uses, read_names, used_units}

module _ (files later : List Read) (file : Read) (at : ℕ) (project : IsProject files) (put_is : later ≡ put files file) (here : index file.name files ≡ Some at) (alike : AreAlike files later)
    (cached : List Input) (readers : List ℕ) (marks flags next : List Bool) (are : AreFlags files cached flags) (r : readers ≡ readers_at files at)
    (reported : (p : ℕ) → is_index readers p ≡ true → get_or marks p false ≡ true) (closed : IsClosed (graph_of files) flags false marks)
    (left : (p : ℕ) → get_or next p false ≡ (get_or flags p false && not (get_or marks p false)))
    (reading : (fs : List Read) (p q : ℕ) → IsProject fs → p < length fs → q < length fs → is_index (readers_at fs q) p ≡ is_among (read_names fs (name_at fs p)) (name_at fs q))
    (files_put : (fs : List Read) (f : Read) (n : List ℕ) → file_of (put fs f) n ≡ cond (bytes_eq f.name n) f (file_of fs n)) (rises : (fs : List Read) (f : Read) → IsProject fs → IsProject (put fs f))
    (alone : (fs others : List Read) (unit : List ℕ) → ((name : List ℕ) → is_among (expansion fs unit).reads name ≡ true → open_source others name ≡ open_source fs name) → expansion others unit ≡ expansion fs unit)
    (step : (fs : List Read) (ks : List Input) (u : List ℕ) → IsProject fs → done fs ks u ≡ done_step fs ks u (done fs ks))
    (now : (fs : List Read) (ks : List Input) (u : List ℕ) → IsProject fs → is_rested fs ks u ≡ true → looked fs ks u ≡ input fs u)
    (high : (fs : List Read) → IsProject fs → (height : List ℕ → ℕ) × ((u v : List ℕ) → is_among (rest_units fs u) v ≡ true → height v < height u)) where
  rising : IsProject later
  rising = subst IsProject (sym put_is) (rises files file project)

  indices : (u : List ℕ) → index u later ≡ index u files
  indices u = still_placed files later file at project put_is here u

  changed : (name : List ℕ) → file_of later name ≡ cond (bytes_eq file.name name) file (file_of files name)
  changed name = ap (λ (fs : List Read). file_of fs name) put_is ∙ files_put files file name

  pub alike_long : length later ≡ length files
  alike_long = still_long files later file at project put_is here

  -- one that is not marked does not read the file
  unread : (u : List ℕ) (p : ℕ) → index u files ≡ Some p → get_or marks p false ≡ false → is_among (read_names files u) file.name ≡ false
  unread u p e none = unread_at files file.name at project here reading u p e (ap (λ (ws : List ℕ). is_index ws p) (sym r) ∙ false_by (is_index readers p) (λ k. let some = reported p k in cc (some, none)))

  pub alike_looked : (u : List ℕ) (p : ℕ) → index u files ≡ Some p → get_or marks p false ≡ false → looked later cached u ≡ looked files cached u
  alike_looked u p e none = sym (looked_still files later file alike indices changed alone u (unread u p e none) cached)

  same_rests : (u : List ℕ) (p : ℕ) → index u files ≡ Some p → get_or marks p false ≡ false → rest_units later u ≡ rest_units files u
  same_rests u p e none =
      let apart = unread u p e none in
      same_filter (λ v. is_below (standing_of later u v)) (λ v. is_below (standing_of files u v)) (used_units later u) (λ v a. ap is_below (same_standing files later file alike indices changed alone u apart v))
      ∙ ap (λ (us : List (List ℕ)). filter (λ v. is_below (standing_of files u v)) us) (same_names files later file alike indices changed alone u apart).1

  -- where all that it rests on is done before and then, its check looks at the same
  same_input : (u : List ℕ) (p : ℕ) → index u files ≡ Some p → get_or marks p false ≡ false → is_rested files cached u ≡ true → is_rested later cached u ≡ true → input later u ≡ input files u
  same_input u p e none before after = sym (now later cached u rising after) ∙ alike_looked u p e none ∙ now files cached u project before

  -- what has its flag then had it, and is not marked
  had : (u : List ℕ) (p : ℕ) → index u later ≡ Some p → flag_of later next u ≡ true → (get_or flags p false ≡ true) × (get_or marks p false ≡ false)
  had u p e h = left_by (get_or flags p false) (get_or marks p false) (sym (left p) ∙ sym (flag_at later next u p e) ∙ h)

  was_done : (u : List ℕ) (p : ℕ) → index u files ≡ Some p → get_or flags p false ≡ true → done files cached u ≡ true
  was_done u p e h = sym (are u) ∙ flag_at files flags u p e ∙ h

  flag_then : (u : List ℕ) (p : ℕ) → index u files ≡ Some p → get_or flags p false ≡ true → get_or marks p false ≡ false → flag_of later next u ≡ true
  flag_then u p e h none = flag_at later next u p (indices u ∙ e) ∙ left p ∙ ap (λ (b : Bool). b && not (get_or marks p false)) h ∙ ap not none

  -- what it rests on is not marked either, and has its flag
  rests_on : (u v : List ℕ) (p : ℕ) → index u files ≡ Some p → get_or marks p false ≡ false → is_among (rest_units files u) v ≡ true → done files cached v ≡ true → flag_of later next v ≡ true
  rests_on u v p e none a d =
      let there = open_index files v (step_open files cached v (done files cached) (sym (step files cached v project) ∙ d)) in
      let flag : get_or flags there.0 false ≡ true = sym (flag_at files flags v there.0 there.1) ∙ are v ∙ d in
      let uses : Uses files u v = among_all (λ w. is_below (standing_of files u w)) (used_units files u) v a in
      flag_then v there.0 there.1 flag (false_by (get_or marks there.0 false) (λ m. let some = closed p there.0 (edge files u v p there.0 e there.1 uses) flag m in cc (some, none)))

  still_done : (u : List ℕ) (p : ℕ) → index u files ≡ Some p → get_or marks p false ≡ false → done files cached u ≡ true → ((v : List ℕ) → is_among (rest_units later u) v ≡ true → flag_of later next v ≡ true → done later cached v ≡ true) → done later cached u ≡ true
  still_done u p e none d rests =
      let was : done_step files cached u (done files cached) ≡ true = sym (step files cached u project) ∙ d in
      let before : is_rested files cached u ≡ true = step_rests files cached u (done files cached) was in
      let same : rest_units later u ≡ rest_units files u = same_rests u p e none in
      let after : is_rested later cached u ≡ true =
      ap (list_all (done later cached)) same
      ∙ all_by (done files cached) (done later cached) (rest_units files u) (λ v a k. rests v (ap (λ (vs : List (List ℕ)). is_among vs v) same ∙ a) (rests_on u v p e none a k)) before
      in
      step later cached u rising
      ∙ is_step later cached u (done later cached) (alike.opened u ∙ step_open files cached u (done files cached) was)
      (ap (is_cached cached) (same_input u p e none before after) ∙ step_cached files cached u (done files cached) was) after

  pub alike_sound : IsSound later cached next
  alike_sound = along_rests later (high later rising).0 (high later rising).1 (λ u. flag_of later next u ≡ true → done later cached u ≡ true) (λ u rests h. by u rests h (index u later) refl) where
    by : (u : List ℕ) → ((v : List ℕ) → is_among (rest_units later u) v ≡ true → flag_of later next v ≡ true → done later cached v ≡ true) → flag_of later next u ≡ true → (o : Option ℕ) → index u later ≡ o → done later cached u ≡ true
    by u rests h None e = let none = no_flag later next u e in absurd (cc (none, h))
    by u rests h (Some p) e =
        let parts = had u p e h in
        let at_p = sym (indices u) ∙ e in
        still_done u p at_p parts.1 (was_done u p at_p parts.0) rests

  -- what is ready then, and is not marked, was so before
  unset_before : (a m : Bool) → m ≡ false → not (a && not m) ≡ true → not a ≡ true
  unset_before true true e h = absurd cc
  unset_before true false e h = h
  unset_before false m e h = refl

  flag_before : (v : List ℕ) → flag_of later next v ≡ true → (o : Option ℕ) → index v later ≡ o → flag_of files flags v ≡ true
  flag_before v h None e = let none = no_flag later next v e in absurd (cc (none, h))
  flag_before v h (Some q) e = flag_at files flags v q (sym (indices v) ∙ e) ∙ (had v q e h).0

  stands_still : get_or marks at false ≡ true → (p : ℕ) (f : Read) → slice_get later p ≡ Some f → get_or marks p false ≡ false → slice_get files p ≡ Some f
  stands_still marked p f there none =
      let at_p : index f.name files ≡ Some p = sym (indices f.name) ∙ placed later p f rising there in
      let known = at_index files f.name p at_p in
      let other : bytes_eq file.name f.name ≡ false =
      false_by (bytes_eq file.name f.name) (λ k.
      let same : Some at ≡ Some p = sym here ∙ ap (λ (n : List ℕ). index n files) ((bytes_eq-Decides file.name f.name).0 k) ∙ at_p in
      let some : get_or marks p false ≡ true = ap (λ (q : ℕ). get_or marks q false) (sym (one_index at p same)) ∙ marked in
      cc (none, some))
      in
      let same : known.0 ≡ f = sym known.1.1.1 ∙ sym (changed f.name ∙ ap (λ (b : Bool). cond b file (file_of files f.name)) other) ∙ filed later p f rising there in
      known.1.0 ∙ ap (λ (g : Read). Some g) same

  pub alike_ready : get_or marks at false ≡ true → (p : ℕ) (f : Read) → slice_get later p ≡ Some f → get_or marks p false ≡ false → is_ready later next p f ≡ true → (slice_get files p ≡ Some f) × (is_ready files flags p f ≡ true)
  alike_ready marked p f there none ready =
      let stands = stands_still marked p f there none in
      let at_p : index f.name files ≡ Some p = placed files p f project stands in
      let unset = left_true (not (get_or next p false)) (list_all (flag_of later next) (rest_units later (name_at later p)) && is_open_unit f) ready in
      let more = right_true (not (get_or next p false)) (list_all (flag_of later next) (rest_units later (name_at later p)) && is_open_unit f) ready in
      let rests = left_true (list_all (flag_of later next) (rest_units later (name_at later p))) (is_open_unit f) more in
      let unit = right_true (list_all (flag_of later next) (rest_units later (name_at later p))) (is_open_unit f) more in
      let same : rest_units later (name_at later p) ≡ rest_units files f.name = ap (rest_units later) (named later p f there) ∙ same_rests f.name p at_p none in
      let before : list_all (flag_of files flags) (rest_units files (name_at files p)) ≡ true =
      ap (λ (n : List ℕ). list_all (flag_of files flags) (rest_units files n)) (named files p f stands)
      ∙ all_by (flag_of later next) (flag_of files flags) (rest_units files f.name) (λ v a k. flag_before v k (index v later) refl) (ap (list_all (flag_of later next)) (sym same) ∙ rests)
      in (
        stands,
        both_true (not (get_or flags p false)) (list_all (flag_of files flags) (rest_units files (name_at files p)) && is_open_unit f)
            (unset_before (get_or flags p false) (get_or marks p false) none (ap not (sym (left p)) ∙ unset))
            (both_true (list_all (flag_of files flags) (rest_units files (name_at files p))) (is_open_unit f) before unit),
      )

  pub alike_full : (p : ℕ) → p < length later → get_or marks p false ≡ false → IsFullAt later cached next p
  alike_full p lt none h =
      let u : List ℕ = name_at later p in
      let e : index u later ≡ Some p = placed_there later cached rising p lt in
      let at_p : index u files ≡ Some p = sym (indices u) ∙ e in
      let same : rest_units later u ≡ rest_units files u = same_rests u p at_p none in
      let rests : list_all (flag_of later next) (rest_units later u) ≡ true = step_rests later cached u (flag_of later next) h in
      let after : is_rested later cached u ≡ true = rests_done later cached next u alike_sound rests in
      let before : is_rested files cached u ≡ true = ap (list_all (done files cached)) (sym same) ∙ all_by (flag_of later next) (done files cached) (rest_units later u) (λ v a k. were v k (index v later) refl) rests in
      let d : done files cached u ≡ true =
      step files cached u project
      ∙ is_step files cached u (done files cached) (sym (alike.opened u) ∙ step_open later cached u (flag_of later next) h)
      (ap (is_cached cached) (sym (same_input u p at_p none before after)) ∙ step_cached later cached u (flag_of later next) h) before
      in
      left p ∙ ap (λ (b : Bool). b && not (get_or marks p false)) (sym (flag_at files flags u p at_p) ∙ are u ∙ d) ∙ ap not none where
        were : (v : List ℕ) → flag_of later next v ≡ true → (o : Option ℕ) → index v later ≡ o → done files cached v ≡ true
        were v k None e = let none = no_flag later next v e in absurd (cc (none, k))
        were v k (Some q) e = was_done v q (sym (indices v) ∙ e) (had v q e k).0
