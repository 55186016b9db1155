-- An edit of a file changes nothing of a unit that does not read it, nor reaches one that does.
use Rattle.std.proofs.Common.{◌≡◌, ◌↔◌, ◌∙◌, ◌&&◌, ◌⊎◌, ◌<◌, Bool, true, false, cond, ℕ, List, [], ◌∷◌, map, refl, sym, ap, subst, inl, inr}
use Rattle.std.proofs.lemmas.Slice.Eq.{bytes_eq-Decides}
use Rattle.std.specs.List.{filter, list_all}
use Rattle.std.specs.Option.{is_some}
use Rattle.std.specs.Str.{bytes_eq}
use Rattle.occ_base.specs.FileName.{is_unit}
use Rattle.occ_board.proofs.Heights.{along_rests}
use Rattle.occ_board.proofs.Judged.{file_source}
use Rattle.occ_board.proofs.Stands.{used_by}
use Rattle.occ_board.proofs.Resting.{same_all}
use Rattle.occ_board.proofs.Truths.{among_first, either_true, not_both, or_left, or_right, same_truth}
use Rattle.occ_board.specs.Done.{done, done_step, is_cached}
use Rattle.occ_board.specs.Edits.{IsApart, IsUnder}
use Rattle.occ_board.specs.Journal.{is_open}
use Rattle.occ_board.specs.inside.Verified.{cached_check, looked}
use Rattle.occ_check.specs.Input.{Input}
use Rattle.occ_check.specs.declared.used.UsedUnit.{UsedUnit}
use Rattle.occ_project.specs.Entries.{is_among}
use Rattle.occ_project.specs.Expansion.{Expansion, expansion}
use Rattle.occ_project.specs.Reads.{open_source}
use Rattle.occ_project.specs.Uses.{used_in}
use Rattle.occ_project.specs.declared.reads.Read.{Read}
use Rattle.occ_check.proofs.Local.{map_among}
use Rattle.occ_check.specs.Checks.{check_of, check_step, checked, input, input_with, used_as, used_unit}
use Rattle.occ_check.specs.declared.checked.Checked.{Checked}
use Rattle.occ_project_units.specs.Indices.{is_below, is_circular, rest_units, standing_of}
use Rattle.occ_project_units.specs.Project.{file_of, put}
use Rattle.occ_project_units.specs.Units.{IsCircular, Reaches, Uses, UsesBy, unit_reads, used_units}
use Rattle.occ_project_units.specs.declared.standing.Standing.{Standing}
use Rattle.occ_project_units.specs.declared.standing.Standing.TheVariants as standing

among_more : (b : Bool) (w v : List ℕ) (vs : List (List ℕ)) → is_among vs v ≡ true → is_among (cond b (w ∷ vs) vs) v ≡ true
among_more true w v vs h = or_right (bytes_eq w v) (is_among vs v) h
among_more false w v vs h = h

among_fewer : (b : Bool) (w v : List ℕ) (vs ws : List (List ℕ)) → is_among (cond b (w ∷ vs) vs) v ≡ true → (is_among vs v ≡ true → is_among ws v ≡ true) → is_among (w ∷ ws) v ≡ true
among_fewer true w v vs ws h f = either_true (bytes_eq w v) (is_among vs v) h (λ e. or_left (bytes_eq w v) (is_among ws v) e) (λ k. or_right (bytes_eq w v) (is_among ws v) (f k))
among_fewer false w v vs ws h f = or_right (bytes_eq w v) (is_among ws v) (f h)

pub among_all : (p : List ℕ → Bool) (vs : List (List ℕ)) (v : List ℕ) → is_among (filter p vs) v ≡ true → is_among vs v ≡ true
among_all p [] v h = h
among_all p (w ∷ vs) v h = among_fewer (p w) w v (filter p vs) vs h (among_all p vs v)

-- what passes a test is among those that pass it
pub cached_among : (p : List ℕ → Bool) (vs : List (List ℕ)) (v : List ℕ) → p v ≡ true → is_among vs v ≡ true → is_among (filter p vs) v ≡ true
cached_among p [] v h a = absurd cc
cached_among p (w ∷ vs) v h a = either_true (bytes_eq w v) (is_among vs v) a
    (λ e. ap (λ (c : Bool). is_among (cond c (w ∷ filter p vs) (filter p vs)) v) (ap p ((bytes_eq-Decides w v).0 e) ∙ h) ∙ or_left (bytes_eq w v) (is_among (filter p vs) v) e)
    (λ k. among_more (p w) w v (filter p vs) (cached_among p vs v h k))

-- tests that agree on names leave the same of them
pub same_filter : (p q : List ℕ → Bool) (vs : List (List ℕ)) → ((v : List ℕ) → is_among vs v ≡ true → p v ≡ q v) → filter p vs ≡ filter q vs
same_filter p q [] e = refl
same_filter p q (v ∷ vs) e =
    let rest = same_filter p q vs (λ w a. e w (or_right (bytes_eq v w) (is_among vs w) a)) in
    ap (λ (b : Bool). cond b (v ∷ filter p vs) (filter p vs)) (e v (among_first v vs)) ∙ ap (λ (ws : List (List ℕ)). cond (q v) (v ∷ ws) ws) rest

-- the units of a way, and the one that it leads to
abbrev ws_on : List (List ℕ) → List ℕ → List (List ℕ)
ws_on [] v = v ∷ []
ws_on (x ∷ ws) v = x ∷ ws_on ws v

-- what a unit under the root uses is under it
module _ (files : List Read) (root : List ℕ) where
  way_on : (u : List ℕ) (ws : List (List ℕ)) (v w : List ℕ) → UsesBy files u ws v → Uses files v w → UsesBy files u (ws_on ws v) w
  way_on u [] v w h k = (h, k)
  way_on u (x ∷ ws) v w h k = (h.0, way_on x ws v w h.1 k)

  pub under_on : (v w : List ℕ) → IsUnder files root v → Uses files v w → IsUnder files root w
  under_on v w (inl e) h = inr ([], subst (λ (x : List ℕ). Uses files x w) e h)
  under_on v w (inr way) h = inr (ws_on way.0 v, way_on root way.0 v w way.1 h)

module _ (files : List Read) (file : Read) (root : List ℕ) (apart : IsApart files file.name root)
    (put_is : (name : List ℕ) → file_of (put files file) name ≡ cond (bytes_eq file.name name) file (file_of files name))
    (alone : (fs others : List Read) (unit : List ℕ) → ((name : List ℕ) → is_among (expansion fs unit).reads name ≡ true → open_source others name ≡ open_source fs name) → expansion others unit ≡ expansion fs unit)
    (itself : (fs : List Read) (unit : List ℕ) → is_among (expansion fs unit).reads unit ≡ true)
    (circles : (fs : List Read) (u v : List ℕ) → (is_circular fs u v ≡ true) ↔ IsCircular fs u v) where
  abbrev later : List Read
  later = put files file

  -- a read of a unit is not the file
  other_name : (v name : List ℕ) → IsUnder files root v → is_among (expansion files v).reads name ≡ true → bytes_eq file.name name ≡ false
  other_name v name under a = by (bytes_eq file.name name) refl where
    by : (b : Bool) → bytes_eq file.name name ≡ b → b ≡ false
    by false e = refl
    by true e = let same : file.name ≡ name = (bytes_eq-Decides file.name name).0 e in absurd (not_both (is_among (expansion files v).reads file.name) (ap (is_among (expansion files v).reads) same ∙ a) (apart v under))

  same_file : (v name : List ℕ) → IsUnder files root v → is_among (expansion files v).reads name ≡ true → file_of later name ≡ file_of files name
  same_file v name under a = put_is name ∙ ap (λ (b : Bool). cond b file (file_of files name)) (other_name v name under a)

  same_expansion : (v : List ℕ) → IsUnder files root v → expansion later v ≡ expansion files v
  same_expansion v under = alone files later v (λ name a. sym (file_source later name) ∙ ap (λ (r : Read). r.source) (same_file v name under a) ∙ file_source files name)

  same_used : (v : List ℕ) → IsUnder files root v → used_units later v ≡ used_units files v
  same_used v under = ap (λ (e : Expansion). cond (is_unit v) (used_in e.lines) []) (same_expansion v under)

  same_reads : (v : List ℕ) → IsUnder files root v → unit_reads later v ≡ unit_reads files v
  same_reads v under = ap (λ (e : Expansion). map (file_of later) (cond (is_unit v) e.reads [])) (same_expansion v under) ∙ by (is_unit v) where
    by : (b : Bool) → map (file_of later) (cond b (expansion files v).reads []) ≡ map (file_of files) (cond b (expansion files v).reads [])
    by true = map_among (file_of later) (file_of files) (expansion files v).reads (λ name a. same_file v name under a)
    by false = refl

  -- ways from units under the root
  there : (v : List ℕ) (ws : List (List ℕ)) (w : List ℕ) → IsUnder files root v → UsesBy files v ws w → UsesBy later v ws w
  there v [] w under h = ap (λ (us : List (List ℕ)). is_among us w) (same_used v under) ∙ h
  there v (x ∷ ws) w under h = (ap (λ (us : List (List ℕ)). is_among us x) (same_used v under) ∙ h.0, there x ws w (under_on files root v x under h.0) h.1)

  back : (v : List ℕ) (ws : List (List ℕ)) (w : List ℕ) → IsUnder files root v → UsesBy later v ws w → UsesBy files v ws w
  back v [] w under h = ap (λ (us : List (List ℕ)). is_among us w) (sym (same_used v under)) ∙ h
  back v (x ∷ ws) w under h =
      let first : Uses files v x = ap (λ (us : List (List ℕ)). is_among us x) (sym (same_used v under)) ∙ h.0 in
      (first, back x ws w (under_on files root v x under first) h.1)

  from_later : (u v : List ℕ) → IsUnder files root u → Uses files u v → (v ≡ u) ⊎ Reaches later v u → (v ≡ u) ⊎ Reaches files v u
  from_later u v under uses (inl e) = inl e
  from_later u v under uses (inr way) = inr (way.0, back v way.0 u (under_on files root u v under uses) way.1)

  to_later : (u v : List ℕ) → IsUnder files root u → Uses files u v → (v ≡ u) ⊎ Reaches files v u → (v ≡ u) ⊎ Reaches later v u
  to_later u v under uses (inl e) = inl e
  to_later u v under uses (inr way) = inr (way.0, there v way.0 u (under_on files root u v under uses) way.1)

  same_circle : (u v : List ℕ) → IsUnder files root u → Uses files u v → is_circular later u v ≡ is_circular files u v
  same_circle u v under uses = same_truth (is_circular later u v) (is_circular files u v)
      (λ h. (circles files u v).1 (uses, from_later u v under uses ((circles later u v).0 h).1))
      (λ h. (circles later u v).1 (there u [] v under uses, to_later u v under uses ((circles files u v).0 h).1))

  same_standing : (u v : List ℕ) → IsUnder files root u → Uses files u v → standing_of later u v ≡ standing_of files u v
  same_standing u v under uses =
      ap (λ (f : Read). cond (is_some f.source) (cond (is_circular later u v) standing.Circular standing.Below) standing.Absent) (same_file v v (under_on files root u v under uses) (itself files v))
      ∙ ap (λ (b : Bool). cond (is_some (file_of files v).source) (cond b standing.Circular standing.Below) standing.Absent) (same_circle u v under uses)

  same_rests : (u : List ℕ) → IsUnder files root u → rest_units later u ≡ rest_units files u
  same_rests u under =
      ap (filter (λ v. is_below (standing_of later u v))) (same_used u under)
      ∙ same_filter (λ v. is_below (standing_of later u v)) (λ v. is_below (standing_of files u v)) (used_units files u) (λ v a. ap is_below (same_standing u v under a))

  rest_uses : (u v : List ℕ) → is_among (rest_units files u) v ≡ true → Uses files u v
  rest_uses u v a = among_all (λ w. is_below (standing_of files u w)) (used_units files u) v a

  -- what the checks look at, where the checks of all that the unit rests on give the same
  input_by : (f g : List ℕ → Checked) (u : List ℕ) → IsUnder files root u → ((v : List ℕ) → is_among (rest_units files u) v ≡ true → f v ≡ g v) → input_with later u f ≡ input_with files u g
  input_by f g u under same =
      ap (λ (rs : List Read). record { unit = u; reads = rs; used = map (used_unit later u f) (used_units later u) }) (same_reads u under)
      ∙ ap (λ (us : List (List ℕ)). record { unit = u; reads = unit_reads files u; used = map (used_unit later u f) us }) (same_used u under)
      ∙ ap (λ (us : List UsedUnit). record { unit = u; reads = unit_reads files u; used = us }) (map_among (used_unit later u f) (used_unit files u g) (used_units files u) (λ v a.
      let stands = same_standing u v under a in
      ap (λ (s : Standing). record { unit = v; used = used_as s (f v).interface }) stands
      ∙ ap (λ x. record { unit = v; used = x }) (used_by (standing_of files u v) (f v).interface (g v).interface (λ b. ap (λ (c : Checked). c.interface) (same v (cached_among (λ w. is_below (standing_of files u w)) (used_units files u) v b a))))))

  -- so what they would look at by what is cached
  pub same_looked_there : (cached : List Input) → looked later cached root ≡ looked files cached root
  same_looked_there cached = input_by (cached_check cached) (cached_check cached) root (inl refl) (λ v a. refl)

  module _ (h : List ℕ → ℕ) (fall : (u v : List ℕ) → is_among (rest_units files u) v ≡ true → h v < h u) where
    module _ (here : (u : List ℕ) → checked files u ≡ check_step files u (checked files)) (then : (u : List ℕ) → checked later u ≡ check_step later u (checked later)) where
      same_checked : (u : List ℕ) → IsUnder files root u → checked later u ≡ checked files u
      same_checked = along_rests files h fall (λ u. IsUnder files root u → checked later u ≡ checked files u) (λ u rests under.
          then u ∙ ap check_of (input_by (checked later) (checked files) u under (λ v a. rests v a (under_on files root u v under (rest_uses u v a)))) ∙ sym (here u))

      same_input : (u : List ℕ) → IsUnder files root u → input later u ≡ input files u
      same_input u under = input_by (checked later) (checked files) u under (λ v a. same_checked v (under_on files root u v under (rest_uses u v a)))

      pub same_input_there : input later root ≡ input files root
      same_input_there = same_input root (inl refl)

      module _ (cached : List Input) (done_here : (u : List ℕ) → done files cached u ≡ done_step files cached u (done files cached)) (done_then : (u : List ℕ) → done later cached u ≡ done_step later cached u (done later cached)) where
        same_done : (u : List ℕ) → IsUnder files root u → done later cached u ≡ done files cached u
        same_done = along_rests files h fall (λ u. IsUnder files root u → done later cached u ≡ done files cached u) (λ u rests under.
            done_then u
            ∙ ap (λ (f : Read). is_some f.source && (is_cached cached (input later u) && list_all (done later cached) (rest_units later u))) (same_file u u under (itself files u))
            ∙ ap (λ (i : Input). is_open files u && (is_cached cached i && list_all (done later cached) (rest_units later u))) (same_input u under)
            ∙ ap (λ (us : List (List ℕ)). is_open files u && (is_cached cached (input files u) && list_all (done later cached) us)) (same_rests u under)
            ∙ ap (λ (b : Bool). is_open files u && (is_cached cached (input files u) && b)) (same_all (done later cached) (done files cached) (rest_units files u) (λ v a. rests v a (under_on files root u v under (rest_uses u v a))))
            ∙ sym (done_here u))

        pub same_done_there : done later cached root ≡ done files cached root
        same_done_there = same_done root (inl refl)
