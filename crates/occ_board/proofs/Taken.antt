-- A job that is taken and finished at once is accepted.
use Rattle.std.proofs.Common.{◌≡◌, ◌∙◌, ◌&&◌, ◌||◌, ◌<◌, Bool, true, false, not, cond, ℕ, suc, List, [], ◌∷◌, length, map, Option, Some, None, refl, sym, ap, subst, if◌then◌else◌}
use Rattle.std.proofs.lemmas.Bool.{eq-eqb}
use Rattle.std.specs.List.{filter, find, list_all, slice_get}
use Rattle.std.specs.Option.{option_map}
use Rattle.occ_board.proofs.Accepted.{fewer_pending}
use Rattle.occ_board.proofs.Nexts.{next_has_job, next_is}
use Rattle.occ_board.proofs.Indices.{file_named, filed}
use Rattle.occ_board.proofs.Settled.{is_step}
use Rattle.occ_board.proofs.Trees.{used_are_one}
use Rattle.occ_board.proofs.Truths.{left_true, not_both, right_true}
use Rattle.occ_board.specs.Done.{done, done_step, is_input_among, is_cached, pending_units}
use Rattle.occ_board.specs.Machine.{cached_after, next_input}
use Rattle.occ_board.specs.Same.{same_used}
use Rattle.occ_board.specs.Verdicts.{is_as_read, is_off, off_read, or_else, reads_verdict, same_text, verdict_of}
use Rattle.occ_board.specs.declared.verdict.Verdict.{Verdict}
use Rattle.occ_board.specs.declared.verdict.Verdict.TheVariants as verdict
use Rattle.occ_board.specs.inside.Ready.{HasJob, IsAcceptable, is_next, is_rested}
use Rattle.occ_check.specs.Input.{Input}
use Rattle.occ_check.specs.declared.used.UsedUnit.{UsedUnit}
use Rattle.occ_forms.specs.Prepared.{Prepared}
use Rattle.occ_project.specs.Entries.{is_among}
use Rattle.occ_project.specs.declared.reads.Read.{Read}
use Rattle.occ_check.specs.Checks.{checked, input, used_unit}
use Rattle.occ_check.specs.Report.{is_open_unit}
use Rattle.occ_project_units.proofs.Looks.{same_bytes}
use Rattle.occ_project_units.specs.Indices.{is_below, rest_units, standing_of}
use Rattle.occ_project_units.specs.Project.{IsProject, file_of}
use Rattle.occ_project_units.specs.Units.{read_names, used_units}

same_as_it_is : (text : Option Prepared) → same_text text text ≡ true
same_as_it_is None = refl
same_as_it_is (Some text) = same_bytes text.text

read_as_it_is : (read : Read) → is_as_read read read ≡ true
read_as_it_is read = ap (λ (b : Bool). b && same_text read.source read.source) (eq-eqb read.revision read.revision refl) ∙ same_as_it_is read.source

-- files that are read as they are decide nothing
pub none_read : (files : List Read) (accepted : ℕ) (names : List (List ℕ)) → reads_verdict files accepted (map (file_of files) names) ≡ None
none_read files accepted [] = refl
none_read files accepted (name ∷ names) =
    let file = file_of files name in
    let same : file_of files file.name ≡ file = ap (file_of files) (file_named files name) in
    let here : is_as_read file (file_of files file.name) ≡ true = ap (is_as_read file) same ∙ read_as_it_is file in
    ap (λ (b : Bool). if b then reads_verdict files accepted (map (file_of files) names) else Some (off_read accepted file (file_of files file.name))) here ∙ none_read files accepted names

-- nor do used units that stand as they do, where those that are rested on are done
none_waits : (below d same : Bool) → (below ≡ true → d ≡ true) → same ≡ true → ((below && not d) || not same) ≡ false
none_waits true true true f e = refl
none_waits true false true f e = let k = f refl in absurd cc
none_waits false d true f e = refl
none_waits below d false f e = absurd cc

none_off : (files : List Read) (cached : List Input) (u : List ℕ) (vs : List (List ℕ)) → list_all (done files cached) (filter (λ v. is_below (standing_of files u v)) vs) ≡ true
    → find (is_off files cached u) (map (used_unit files u (checked files)) vs) ≡ None
none_off files cached u [] h = refl
none_off files cached u (v ∷ vs) h = by (is_below (standing_of files u v)) refl h (none_off files cached u vs) where
  one : UsedUnit
  one = used_unit files u (checked files) v

  rests : List (List ℕ)
  rests = filter (λ v. is_below (standing_of files u v)) vs

  step : (is_below (standing_of files u v) ≡ true → done files cached v ≡ true) → find (is_off files cached u) (map (used_unit files u (checked files)) vs) ≡ None → find (is_off files cached u) (one ∷ map (used_unit files u (checked files)) vs) ≡ None
  step waits rest =
      ap (λ (b : Bool). cond b (Some one) (find (is_off files cached u) (map (used_unit files u (checked files)) vs)))
      (none_waits (is_below (standing_of files u v)) (done files cached v) (same_used one one) waits ((used_are_one one one).1 refl))
      ∙ rest

  by : (b : Bool) → is_below (standing_of files u v) ≡ b → list_all (done files cached) (cond b (v ∷ rests) rests) ≡ true → (list_all (done files cached) rests ≡ true → find (is_off files cached u) (map (used_unit files u (checked files)) vs) ≡ None)
      → find (is_off files cached u) (map (used_unit files u (checked files)) (v ∷ vs)) ≡ None
  by true e k rest = step (λ b. left_true (done files cached v) (list_all (done files cached) rests) k) (rest (right_true (done files cached v) (list_all (done files cached) rests) k))
  by false e k rest = step (λ b. absurd (not_both (is_below (standing_of files u v)) b e)) (rest k)

-- the first that passes a test stands at an index, and passes it
found : {X : Type 0} (t : X → Bool) (xs : List X) (x : X) → find t xs ≡ Some x → (p : ℕ) × ((slice_get xs p ≡ Some x) × (t x ≡ true))
found t [] x e = absurd cc
found t (y ∷ ys) x e = by (t y) refl e (found t ys x) where
  by : (b : Bool) → t y ≡ b → cond b (Some y) (find t ys) ≡ Some x → (find t ys ≡ Some x → (p : ℕ) × ((slice_get ys p ≡ Some x) × (t x ≡ true))) → (p : ℕ) × ((slice_get (y ∷ ys) p ≡ Some x) × (t x ≡ true))
  by true k h rest = let same : y ≡ x = cc in (0, (ap Some same, ap t (sym same) ∙ k))
  by false k h rest = let more = rest h in (suc more.0, more.1)

of_some : {X Y : Type 0} (f : X → Y) (o : Option X) (y : Y) → option_map f o ≡ Some y → (x : X) × ((o ≡ Some x) × (y ≡ f x))
of_some f None y e = absurd cc
of_some f (Some x) y e = let same : f x ≡ y = cc in (x, (refl, sym same))

not_true : (b : Bool) → (b ≡ true → ⊥) → b ≡ false
not_true true f = absurd (f refl)
not_true false f = refl

module _ (files : List Read) (project : IsProject files) (law : (cached : List Input) (u : List ℕ) → done files cached u ≡ done_step files cached u (done files cached)) (h : List ℕ → ℕ) (fall : (u v : List ℕ) → is_among (rest_units files u) v ≡ true → h v < h u) (cached : List Input) where
  -- what is ready has a job, and is not cached
  other : (u : List ℕ) → HasJob files cached u → not (done files cached u) ≡ true → is_cached cached (input files u) ≡ false
  other u job pending = not_true (is_cached cached (input files u)) (λ k.
      let is : done files cached u ≡ true = law cached u ∙ is_step files cached u (done files cached) job.opened k job.rested in
      not_both (not (done files cached u)) pending (ap not is))

  judged : (accepted : ℕ) (u : List ℕ) → HasJob files cached u → not (done files cached u) ≡ true → verdict_of files accepted cached (input files u) ≡ verdict.Accepted
  judged accepted u job pending =
      ap (λ (o : Option Verdict). or_else o (or_else (option_map (λ one. verdict.Stale one.unit) (find (is_off files cached u) (input files u).used)) (if is_cached cached (input files u) then verdict.Repeated else verdict.Accepted))) (none_read files accepted (read_names files u))
      ∙ ap (λ (o : Option UsedUnit). or_else (option_map (λ one. verdict.Stale one.unit) o) (if is_cached cached (input files u) then verdict.Repeated else verdict.Accepted)) (none_off files cached u (used_units files u) job.rested)
      ∙ ap (λ (b : Bool). if b then verdict.Repeated else verdict.Accepted) (other u job pending)

  fewer : (accepted : ℕ) (u : List ℕ) → HasJob files cached u → not (done files cached u) ≡ true
      → length (pending_units files (cached_after (verdict_of files accepted cached (input files u)) cached (input files u))) < length (pending_units files cached)
  fewer accepted u job pending =
      subst (λ (v : Verdict). length (pending_units files (cached_after v cached (input files u))) < length (pending_units files cached)) (sym (judged accepted u job pending))
      (fewer_pending files law h fall cached (input files u) refl job.unit job.opened job.rested (other u job pending))

  -- what is next
  next : (handed : List Input) (i : Input) → next_input files cached handed ≡ Some i → (u : List ℕ) × ((i ≡ input files u) × (HasJob files cached u × (not (done files cached u) ≡ true)))
  next handed i e =
      let one = of_some (λ (file : Read). input files file.name) (find (is_next files cached handed) files) i (sym (next_is files cached handed) ∙ e) in
      let at = found (is_next files cached handed) files one.0 one.1.0 in
      let file = one.0 in
      let pending = left_true (not (done files cached file.name)) (is_rested files cached file.name && not (is_input_among handed (input files file.name)))
      (right_true (is_open_unit file) (not (done files cached file.name) && (is_rested files cached file.name && not (is_input_among handed (input files file.name)))) at.1.1) in
      (file.name, (one.1.1, (next_has_job files cached handed file (filed files at.0 file project at.1.0) at.1.1, pending)))

  -- what is next may be cached
  pub next_acceptable : (handed : List Input) (i : Input) → next_input files cached handed ≡ Some i → IsAcceptable files cached i
  next_acceptable handed i e =
      let n = next handed i e in
      subst (IsAcceptable files cached) (sym n.1.0) (record { now = refl; job = n.1.1.0; other = other n.0 n.1.1.0 n.1.1.1 })

  pub next_accepted : (accepted : ℕ) (handed : List Input) (i : Input) → next_input files cached handed ≡ Some i → verdict_of files accepted cached i ≡ verdict.Accepted
  next_accepted accepted handed i e = let n = next handed i e in ap (verdict_of files accepted cached) n.1.0 ∙ judged accepted n.0 n.1.1.0 n.1.1.1

  pub next_fewer : (accepted : ℕ) (handed : List Input) (i : Input) → next_input files cached handed ≡ Some i
      → length (pending_units files (cached_after (verdict_of files accepted cached i) cached i)) < length (pending_units files cached)
  next_fewer accepted handed i e =
      let n = next handed i e in
      subst (λ (j : Input). length (pending_units files (cached_after (verdict_of files accepted cached j) cached j)) < length (pending_units files cached)) (sym n.1.0) (fewer accepted n.0 n.1.1.0 n.1.1.1)

none_left : {X : Type 0} (xs : List X) → length xs ≡ 0 → xs ≡ []
none_left [] e = refl
none_left (x ∷ xs) e = absurd cc

-- with nothing pending nothing is next
pub none_next : (files : List Read) (cached handed : List Input) → length (pending_units files cached) ≡ 0 → next_input files cached handed ≡ None
none_next files cached handed e =
    ap (λ (us : List (List ℕ)). find (λ i. not (is_input_among handed i)) (map (input files) (filter (λ u. list_all (done files cached) (rest_units files u)) us))) (none_left (pending_units files cached) e)
