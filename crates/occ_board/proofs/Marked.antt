-- What an edit may concern is marked.
use Rattle.std.proofs.Common.{◌≡◌, ◌∙◌, ◌<◌, ◌≤◌, ◌+◌, ◌&&◌, ◌||◌, ◌⊎◌, ◌↔◌, ℕ, zero, suc, Bool, true, false, cond, not, List, [], ◌∷◌, ◌++◌, length, map, get_or, drop, take, Option, Some, None, refl, sym, ap, subst, inl, inr, arith}
use Rattle.std.proofs.lemmas.Bool.{cases_lt, eqb-false, eqb-true}
use Rattle.std.proofs.lemmas.List.{take_more}
use Rattle.std.proofs.lemmas.Slice.Eq.{bytes_eq-Decides}
use Rattle.std.specs.List.{filter, list_all}
use Rattle.std.specs.Option.{is_some}
use Rattle.std.specs.Prelude.{◌==◌, slice_set}
use Rattle.std.specs.Str.{bytes_eq}
use Rattle.occ_base.specs.FileName.{is_unit}
use Rattle.occ_board.proofs.Indices.{name_there}
use Rattle.occ_board.proofs.Settled.{flag_at, no_flag, set_fewer, step_done}
use Rattle.occ_board.proofs.Spread.{placed_there, set_apart, set_here, set_stays}
use Rattle.occ_board.specs.Done.{done, done_step, is_cached}
use Rattle.occ_board.specs.Edits.{IsApart}
use Rattle.occ_board.specs.inside.Flagged.{AreFlags, IsFull, IsFullAt, IsSound, unflagged}
use Rattle.occ_board.specs.Journal.{is_open}
use Rattle.occ_board.specs.inside.Verified.{cached_check, looked}
use Rattle.occ_board.specs.inside.Touched.{IsClosed}
use Rattle.occ_check.specs.Input.{Input}
use Rattle.occ_project_graph.specs.Graph.{has_edge, is_among}
use Rattle.occ_project.specs.Entries as names
use Rattle.occ_project.specs.Expansion.{expansion}
use Rattle.occ_project.specs.Reads.{index}
use Rattle.occ_project.specs.declared.reads.Read.{Read}
use Rattle.occ_project.specs.Uses.{used_in}
use Rattle.occ_check.specs.Checks.{checked, input_with, used_unit}
use Rattle.occ_check.specs.declared.checked.Checked.{Checked}
use Rattle.occ_project_units.proofs.Edges.{absent_reads, edge, placed_user}
use Rattle.occ_project_units.proofs.Finding.{index_within}
use Rattle.occ_project_units.proofs.Renewed.{still_long, still_placed, there_among}
use Rattle.occ_project_units.specs.Along.{name_at}
use Rattle.occ_project_units.specs.Indices.{graph_of, is_below, readers_at, rest_units, standing_of, users_at}
use Rattle.occ_project_units.specs.Project.{IsProject, file_of, put}
use Rattle.occ_project_units.specs.Spelled.{AreSpelled}
use Rattle.occ_project_units.specs.Units.{Uses, UsesBy, read_names}

-- what marking along the first i users of the unit at an index has come to
pub record IsTouch (files : List Read) (flags : List Bool) (all : Bool) (users : List ℕ) (old marks : List Bool) (at i : ℕ) : Type 0 where
  pub len : length marks ≡ length files
  pub fewer : unflagged marks < unflagged old
  pub more : (p : ℕ) → get_or old p false ≡ true → get_or marks p false ≡ true
  pub here : get_or marks at false ≡ true
  pub closed : (p q : ℕ) → has_edge (graph_of files) p q ≡ true → (all || get_or flags q false) ≡ true → get_or old q false ≡ false → get_or marks q false ≡ true → (get_or marks p false ≡ true) ⊎ ((at ≡ q) × (is_among (drop i users) p ≡ true))

long_set : (flags : List Bool) (p : ℕ) → length (slice_set flags p true) ≡ length flags
long_set [] p = refl
long_set (f ∷ flags) zero = refl
long_set (f ∷ flags) (suc p) = ap suc (long_set flags p)

module _ (files : List Read) (flags : List Bool) (all : Bool) where
  -- one mark is set
  pub touch_begun : (reported : (p q : ℕ) → (is_among (users_at files q) p ≡ true) ↔ (has_edge (graph_of files) p q ≡ true)) (users : List ℕ) (old marks : List Bool) (at : ℕ) → users ≡ users_at files at → marks ≡ slice_set old at true → length old ≡ length files
      → at < length files → get_or old at false ≡ false → IsTouch files flags all users old marks at 0
  touch_begun reported users old marks at u m len lt none = subst (λ (ms : List Bool). IsTouch files flags all users old ms at 0) (sym m) (record {
    len = long_set old at ∙ len;
    fewer = set_fewer old at (omega (arith, len, lt)) none;
    more = set_stays old at;
    here = set_here old at (omega (arith, len, lt));
    closed = λ p q e on o h. by p q (q == at) refl e o h;
  }) where
    by : (p q : ℕ) (b : Bool) → (q == at) ≡ b → has_edge (graph_of files) p q ≡ true → get_or old q false ≡ false → get_or (slice_set old at true) q false ≡ true
        → (get_or (slice_set old at true) p false ≡ true) ⊎ ((at ≡ q) × (is_among users p ≡ true))
    by p q true t e o h =
        let same : q ≡ at = eqb-true q at t in
        inr (sym same, ap (λ (ws : List ℕ). is_among ws p) u ∙ (reported p at).1 (subst (λ (x : ℕ). has_edge (graph_of files) p x ≡ true) same e))
    by p q false t e o h = let k : get_or old q false ≡ true = sym (set_apart old at q (eqb-false q at t)) ∙ h in absurd (cc (k, o))

  -- and what one more user marks
  pub touch_more : (users : List ℕ) (old marks next : List Bool) (at i user : ℕ) → IsTouch files flags all users old marks at i → drop i users ≡ user ∷ drop (i + 1) users → length next ≡ length files → unflagged next ≤ unflagged marks
      → ((p : ℕ) → get_or marks p false ≡ true → get_or next p false ≡ true) → get_or next user false ≡ true
      → ((p q : ℕ) → has_edge (graph_of files) p q ≡ true → (all || get_or flags q false) ≡ true → get_or marks q false ≡ false → get_or next q false ≡ true → get_or next p false ≡ true) → IsTouch files flags all users old next at (i + 1)
  touch_more users old marks next at i user h split len least more here closed = record {
    len = len;
    fewer = let f = h.fewer in omega (arith, f, least);
    more = λ p k. more p (h.more p k);
    here = more at h.here;
    closed = λ p q e on o k. by p q (get_or marks q false) refl e on o k;
  } where
    user_there : (p q : ℕ) (b : Bool) → (user == p) ≡ b → at ≡ q → (b || is_among (drop (i + 1) users) p) ≡ true → (get_or next p false ≡ true) ⊎ ((at ≡ q) × (is_among (drop (i + 1) users) p ≡ true))
    user_there p q true t s k = inl (subst (λ (x : ℕ). get_or next x false ≡ true) (eqb-true user p t) here)
    user_there p q false t s k = inr (s, k)

    by : (p q : ℕ) (b : Bool) → get_or marks q false ≡ b → has_edge (graph_of files) p q ≡ true → (all || get_or flags q false) ≡ true → get_or old q false ≡ false → get_or next q false ≡ true → (get_or next p false ≡ true) ⊎ ((at ≡ q) × (is_among (drop (i + 1) users) p ≡ true))
    by p q true t e on o k = elim (h.closed p q e on o t) [
      | inl m ↦ inl (more p m)
      | inr m ↦ user_there p q (user == p) refl m.0 (sym (ap (λ (ws : List ℕ). is_among ws p) split) ∙ m.1)
    ]
    by p q false t e on o k = inl (closed p q e on t k)

  none_after : (ws : List ℕ) (p : ℕ) → is_among (drop (length ws) ws) p ≡ false
  none_after [] p = refl
  none_after (w ∷ ws) p = none_after ws p

  pub touch_over : (users : List ℕ) (old marks : List Bool) (at i : ℕ) → IsTouch files flags all users old marks at i → length users ≤ i → i ≤ length users
      → (p q : ℕ) → has_edge (graph_of files) p q ≡ true → (all || get_or flags q false) ≡ true → get_or old q false ≡ false → get_or marks q false ≡ true → get_or marks p false ≡ true
  touch_over users old marks at i h most least p q e on o k = elim (h.closed p q e on o k) [
    | inl m ↦ m
    | inr m ↦
        let end : i ≡ length users = omega (arith, most, least) in
        let none : is_among (drop i users) p ≡ false = ap (λ (n : ℕ). is_among (drop n users) p) end ∙ none_after users p in
        let some = m.1 in
        absurd (cc (none, some))
  ]

  -- marks that were closed stay so
  pub closed_more : (old marks : List Bool) → IsClosed (graph_of files) flags all old → ((p : ℕ) → get_or old p false ≡ true → get_or marks p false ≡ true)
      → ((p q : ℕ) → has_edge (graph_of files) p q ≡ true → (all || get_or flags q false) ≡ true → get_or old q false ≡ false → get_or marks q false ≡ true → get_or marks p false ≡ true) → IsClosed (graph_of files) flags all marks
  closed_more old marks was more reported p q e on k = by (get_or old q false) refl where
    by : (b : Bool) → get_or old q false ≡ b → get_or marks p false ≡ true
    by true o = more p (was p q e on o)
    by false o = reported p q e on o k

  -- where one is marked that what uses it is not to follow
  pub touch_alone : (old marks : List Bool) (at : ℕ) → marks ≡ slice_set old at true → (all || get_or flags at false) ≡ false
      → (p q : ℕ) → has_edge (graph_of files) p q ≡ true → (all || get_or flags q false) ≡ true → get_or old q false ≡ false → get_or marks q false ≡ true → get_or marks p false ≡ true
  touch_alone old marks at m off p q e on o h = by (q == at) refl where
    by : (b : Bool) → (q == at) ≡ b → get_or marks p false ≡ true
    by true t = let none = subst (λ (x : ℕ). (all || get_or flags x false) ≡ false) (sym (eqb-true q at t)) off in absurd (cc (none, on))
    by false t = let k : get_or old q false ≡ true = sym (set_apart old at q (eqb-false q at t)) ∙ ap (λ (ms : List Bool). get_or ms q false) (sym m) ∙ h in absurd (cc (k, o))

  -- what marking the file at an index and along the first n of its readers has come to
  pub record IsTouched (at : ℕ) (readers : List ℕ) (marks : List Bool) (n : ℕ) : Type 0 where
    pub len : length marks ≡ length files
    pub here : get_or marks at false ≡ true
    pub read : (i : ℕ) → i < n → get_or marks (get_or readers i 0) false ≡ true
    pub closed : IsClosed (graph_of files) flags all marks

  last_or_less : (n p : ℕ) → p < n + 1 → (p ≡ n) ⊎ (p < n)
  last_or_less zero zero h = inl refl
  last_or_less zero (suc p) h = absurd (omega (arith, h))
  last_or_less (suc n) zero h = inr (omega arith)
  last_or_less (suc n) (suc p) h = elim (last_or_less n p (omega (arith, h))) [
    | inl e ↦ inl (ap suc e)
    | inr k ↦ inr (omega (arith, k))
  ]

  pub touched_more : (at : ℕ) (readers : List ℕ) (marks next : List Bool) (n : ℕ) → IsTouched at readers marks n → length next ≡ length files → ((p : ℕ) → get_or marks p false ≡ true → get_or next p false ≡ true)
      → get_or next (get_or readers n 0) false ≡ true → IsClosed (graph_of files) flags all next → IsTouched at readers next (n + 1)
  touched_more at readers marks next n h len more here closed = record {
    len = len;
    here = more at h.here;
    read = λ i lt. elim (last_or_less n i lt) [
      | inl e ↦ subst (λ (x : ℕ). get_or next (get_or readers x 0) false ≡ true) (sym e) here
      | inr k ↦ more (get_or readers i 0) (h.read i k)
    ];
    closed = closed;
  }

  pub touched_all : (at : ℕ) (readers : List ℕ) (marks : List Bool) (n : ℕ) → IsTouched at readers marks n → length readers ≤ n → (p : ℕ) → is_among readers p ≡ true → get_or marks p false ≡ true
  touched_all at readers marks n h most p k =
      let there = there_among readers p k in
      let lt = there.1.0 in
      ap (λ (x : ℕ). get_or marks x false) (sym there.1.1) ∙ h.read there.0 (omega (arith, lt, most))

-- what is no unit reads and uses nothing
pub no_input : (fs : List Read) (f : List ℕ → Checked) (u : List ℕ) → is_unit u ≡ false → input_with fs u f ≡ record { unit = u; reads = []; used = [] }
no_input fs f u none = ap (λ (b : Bool). record { unit = u; reads = map (file_of fs) (cond b (expansion fs u).reads []); used = map (used_unit fs u f) (cond b (used_in (expansion fs u).lines) []) }) none

no_rests : (fs : List Read) (u : List ℕ) → is_unit u ≡ false → rest_units fs u ≡ []
no_rests fs u none = ap (λ (b : Bool). filter (λ v. is_below (standing_of fs u v)) (cond b (used_in (expansion fs u).lines) [])) none

pub no_unit_step : (cached : List Input) (step : (fs : List Read) (ks : List Input) (u : List ℕ) → IsProject fs → done fs ks u ≡ done_step fs ks u (done fs ks)) (fs : List Read) (u : List ℕ) → is_unit u ≡ false → IsProject fs
    → done fs cached u ≡ (is_open fs u && (is_cached cached (record { unit = u; reads = []; used = [] }) && true))
no_unit_step cached step fs u none p =
    step fs cached u p
    ∙ ap (λ (i : Input). is_open fs u && (is_cached cached i && list_all (done fs cached) (rest_units fs u))) (no_input fs (checked fs) u none)
    ∙ ap (λ (vs : List (List ℕ)). is_open fs u && (is_cached cached (record { unit = u; reads = []; used = [] }) && list_all (done fs cached) vs)) (no_rests fs u none)

pub reads_by : (files : List Read) (name : List ℕ) (b : Bool) (v : List ℕ) → is_unit v ≡ b → b ≡ true → names.is_among (read_names files v) name ≡ false → names.is_among (expansion files v).reads name ≡ false
reads_by files name true v u t h = sym (ap (λ (b : Bool). names.is_among (cond b (expansion files v).reads []) name) u) ∙ h
reads_by files name false v u t h = cc

-- a unit that is not marked is one that the edit does not concern
module _ (files : List Read) (project : IsProject files) (name : List ℕ) (at : ℕ) (marks : List Bool) (e : index name files ≡ Some at) (readers : (p : ℕ) → is_among (readers_at files at) p ≡ true → get_or marks p false ≡ true)
    (flags : List Bool) (closed : IsClosed (graph_of files) flags true marks)
    (reading : (p q : ℕ) → IsProject files → p < length files → q < length files → is_among (readers_at files q) p ≡ names.is_among (read_names files (name_at files p)) (name_at files q))
    (units : (u v : List ℕ) → Uses files u v → is_unit v ≡ true) where
  abbrev Unmarked : List ℕ → Type 0
  Unmarked v = (q : ℕ) → index v files ≡ Some q → get_or marks q false ≡ false

  false_by : (b : Bool) → (b ≡ true → ⊥) → b ≡ false
  false_by true f = absurd (f refl)
  false_by false f = refl

  next_unmarked : (u v : List ℕ) → Unmarked u → Uses files u v → Unmarked v
  next_unmarked u v h uses q k = false_by (get_or marks q false) (λ m.
      let from = placed_user files u v uses in
      let there : get_or marks from.0 false ≡ true = closed from.0 q (edge files u v from.0 q from.1 k uses) refl m in
      let none = h from.0 from.1 in
      cc (there, none))

  way_unmarked : (u : List ℕ) (ws : List (List ℕ)) (v : List ℕ) → Unmarked u → UsesBy files u ws v → Unmarked v × (is_unit v ≡ true)
  way_unmarked u [] v h uses = (next_unmarked u v h uses, units u v uses)
  way_unmarked u (w ∷ ws) v h uses = way_unmarked w ws v (next_unmarked u w h uses.0) uses.1

  not_alone : (v : List ℕ) → index v files ≡ None → names.is_among (v ∷ []) name ≡ false
  not_alone v none = false_by (names.is_among (v ∷ []) name) (λ k. by (bytes_eq v name) refl k) where
    by : (b : Bool) → bytes_eq v name ≡ b → (b || false) ≡ true → ⊥
    by true h k =
        let same : v ≡ name = (bytes_eq-Decides v name).0 h in
        let there : index name files ≡ None = ap (λ (n : List ℕ). index n files) (sym same) ∙ none in
        cc (there, e)
    by false h k = cc

  unmarked_reads : (v : List ℕ) → is_unit v ≡ true → Unmarked v → names.is_among (expansion files v).reads name ≡ false
  unmarked_reads v unit h = by (index v files) refl where
    by : (o : Option ℕ) → index v files ≡ o → names.is_among (expansion files v).reads name ≡ false
    by None k = ap (λ (ns : List (List ℕ)). names.is_among ns name) (absent_reads files v k) ∙ not_alone v k
    by (Some q) k =
        let named : name_at files q ≡ v = name_there files v q k in
        let its : name_at files at ≡ name = name_there files name at e in
        let law = reading q at project (index_within v files q k) (index_within name files at e) in
        let none : names.is_among (read_names files v) name ≡ false =
        false_by (names.is_among (read_names files v) name) (λ r.
        let reads : is_among (readers_at files at) q ≡ true = law ∙ ap (λ (n : List ℕ). names.is_among (read_names files n) (name_at files at)) named ∙ ap (names.is_among (read_names files v)) its ∙ r in
        let there = readers q reads in
        let not_there = h q k in
        cc (there, not_there))
        in
        reads_by files name (is_unit v) v refl unit none

  pub unmarked_apart : (u : List ℕ) → is_unit u ≡ true → Unmarked u → IsApart files name u
  unmarked_apart u unit h v (inl k) = unmarked_reads v (ap is_unit k ∙ unit) (subst Unmarked (sym k) h)
  unmarked_apart u unit h v (inr way) = let there = way_unmarked u way.0 v h way.1 in unmarked_reads v there.1 there.0

  -- nor does it concern what is no unit, but for the file itself
  module _ (later : List Read) (file : Read) (cached : List Input) (named : file.name ≡ name) (put_is : later ≡ put files file) (here : get_or marks at false ≡ true)
      (apart : (fs : List Read) (f : Read) (ks : List Input) (u : List ℕ) → IsProject fs → IsApart fs f.name u → done (put fs f) ks u ≡ done fs ks u)
      (files_put : (fs : List Read) (f : Read) (n : List ℕ) → file_of (put fs f) n ≡ cond (bytes_eq f.name n) f (file_of fs n)) (rises : (fs : List Read) (f : Read) → IsProject fs → IsProject (put fs f))
      (step : (fs : List Read) (ks : List Input) (u : List ℕ) → IsProject fs → done fs ks u ≡ done_step fs ks u (done fs ks)) where
    still_open : (u : List ℕ) → Unmarked u → is_open later u ≡ is_open files u
    still_open u h = by (bytes_eq file.name u) refl where
      by : (b : Bool) → bytes_eq file.name u ≡ b → is_open later u ≡ is_open files u
      by true k =
          let same : name ≡ u = sym named ∙ (bytes_eq-Decides file.name u).0 k in
          let none = h at (ap (λ (n : List ℕ). index n files) (sym same) ∙ e) in
          absurd (cc (none, here))
      by false k = ap (λ (f : Read). is_some f.source) (ap (λ (fs : List Read). file_of fs u) put_is ∙ files_put files file u ∙ ap (λ (b : Bool). cond b file (file_of files u)) k)

    pub unmarked_same : (u : List ℕ) → Unmarked u → done later cached u ≡ done files cached u
    unmarked_same u h = by (is_unit u) refl where
      by : (b : Bool) → is_unit u ≡ b → done later cached u ≡ done files cached u
      by true unit = ap (λ (fs : List Read). done fs cached u) put_is ∙ apart files file cached u project (subst (λ (n : List ℕ). IsApart files n u) (sym named) (unmarked_apart u unit h))
      by false none =
          no_unit_step cached step later u none (subst IsProject (sym put_is) (rises files file project))
          ∙ ap (λ (b : Bool). b && (is_cached cached (record { unit = u; reads = []; used = [] }) && true)) (still_open u h)
          ∙ sym (no_unit_step cached step files u none project)

-- the flags after the edit of a file that was there
pub left_by : (a b : Bool) → (a && not b) ≡ true → (a ≡ true) × (b ≡ false)
left_by true true h = absurd cc
left_by true false h = (refl, refl)
left_by false b h = absurd cc

some_is : (m n : ℕ) → Some m ≡ Some n → m ≡ n
some_is m n s = cc

module _ (files later : List Read) (name : List ℕ) (cached : List Input) (flags marks next : List Bool) (are : AreFlags files cached flags) (indices : (u : List ℕ) → index u later ≡ index u files) (left : (p : ℕ) → get_or next p false ≡ (get_or flags p false && not (get_or marks p false)))
    (same : (u : List ℕ) → ((q : ℕ) → index u files ≡ Some q → get_or marks q false ≡ false) → done later cached u ≡ done files cached u) where
  at_only : (u : List ℕ) (p : ℕ) → index u later ≡ Some p → get_or marks p false ≡ false → (q : ℕ) → index u files ≡ Some q → get_or marks q false ≡ false
  at_only u p e m q f = let is : Some p ≡ Some q = sym e ∙ indices u ∙ f in subst (λ (x : ℕ). get_or marks x false ≡ false) (some_is p q is) m

  flagged : (u : List ℕ) (p : ℕ) → index u later ≡ Some p → get_or flags p false ≡ done files cached u
  flagged u p e = sym (flag_at files flags u p (sym (indices u) ∙ e)) ∙ are u

  pub sound_after : IsSound later cached next
  sound_after u h = by (index u later) refl where
    by : (o : Option ℕ) → index u later ≡ o → done later cached u ≡ true
    by None e = let none = no_flag later next u e in absurd (cc (none, h))
    by (Some p) e =
        let parts = left_by (get_or flags p false) (get_or marks p false) (sym (left p) ∙ sym (flag_at later next u p e) ∙ h) in
        same u (at_only u p e parts.1) ∙ sym (flagged u p e) ∙ parts.0

  pub full_after : IsProject later → ((u : List ℕ) → done later cached u ≡ done_step later cached u (done later cached)) → (p : ℕ) → p < length later → get_or marks p false ≡ false → IsFullAt later cached next p
  full_after project law p lt m h =
      let u : List ℕ = name_at later p in
      let e : index u later ≡ Some p = placed_there later cached project p lt in
      let is : done later cached u ≡ true = step_done later cached law next u sound_after h in
      left p ∙ ap (λ (b : Bool). b && not (get_or marks p false)) (flagged u p e ∙ sym (same u (at_only u p e m)) ∙ is) ∙ ap not m

-- marked units lose their flags one after the other
pub among_append : (ws : List ℕ) (w p : ℕ) → is_among (ws ++ w ∷ []) p ≡ (is_among ws p || (w == p))
among_append [] w p = or_false (w == p) where
  or_false : (b : Bool) → (b || false) ≡ b
  or_false true = refl
  or_false false = refl
among_append (x ∷ ws) w p = ap (λ (b : Bool). (x == p) || b) (among_append ws w p) ∙ either (x == p) (is_among ws p) (w == p) where
  either : (a b c : Bool) → (a || (b || c)) ≡ ((a || b) || c)
  either true b c = refl
  either false b c = refl

among_take : (ws : List ℕ) (n p : ℕ) → n < length ws → is_among (take (n + 1) ws) p ≡ (is_among (take n ws) p || (get_or ws n 0 == p))
among_take ws n p lt = ap (λ (xs : List ℕ). is_among xs p) (take_more ws n 0 lt) ∙ among_append (take n ws) (get_or ws n 0) p

get_set_apart : (flags : List Bool) (n p : ℕ) (b : Bool) → (p ≡ n → ⊥) → get_or (slice_set flags n b) p false ≡ get_or flags p false
get_set_apart [] n p b h = refl
get_set_apart (f ∷ flags) zero zero b h = absurd (h refl)
get_set_apart (f ∷ flags) zero (suc p) b h = refl
get_set_apart (f ∷ flags) (suc n) zero b h = refl
get_set_apart (f ∷ flags) (suc n) (suc p) b h = get_set_apart flags n p b (λ e. h (ap suc e))

pub set_as_long : (flags : List Bool) (n : ℕ) (b : Bool) → length (slice_set flags n b) ≡ length flags
set_as_long [] n b = refl
set_as_long (f ∷ flags) zero b = refl
set_as_long (f ∷ flags) (suc n) b = ap suc (set_as_long flags n b)

get_unset : (flags : List Bool) (n : ℕ) → get_or (slice_set flags n false) n false ≡ false
get_unset [] n = refl
get_unset (f ∷ flags) zero = refl
get_unset (f ∷ flags) (suc n) = get_unset flags n

-- the first n of them
pub record IsUnflagged (old : List Bool) (indices : List ℕ) (flags : List Bool) (n : ℕ) : Type 0 where
  pub len : length flags ≡ length old
  pub each : (p : ℕ) → get_or flags p false ≡ (get_or old p false && not (is_among (take n indices) p))

and_true : (b : Bool) → b ≡ (b && true)
and_true true = refl
and_true false = refl

pub unflag_begun : (old : List Bool) (indices : List ℕ) → IsUnflagged old indices old 0
unflag_begun old indices = record { len = refl; each = λ p. and_true (get_or old p false) }

pub unflag_more : (old : List Bool) (indices : List ℕ) (flags next : List Bool) (n index : ℕ) → IsUnflagged old indices flags n → n < length indices → index ≡ get_or indices n 0 → next ≡ slice_set flags index false → IsUnflagged old indices next (n + 1)
unflag_more old indices flags next n index h lt here put = record {
  len = ap (length {A = Bool}) put ∙ set_as_long flags index false ∙ h.len;
  each = λ p. ap (λ (fs : List Bool). get_or fs p false) put ∙ by p (index == p) refl ∙ ap (λ (b : Bool). get_or old p false && not b) (sym (among_take indices n p lt ∙ ap (λ (x : ℕ). is_among (take n indices) p || (x == p)) (sym here)));
} where
  none : (a b : Bool) → false ≡ (a && not (b || true))
  none true true = refl
  none true false = refl
  none false b = refl

  same : (a b : Bool) → (a && not b) ≡ (a && not (b || false))
  same true true = refl
  same true false = refl
  same false b = refl

  by : (p : ℕ) (b : Bool) → (index == p) ≡ b → get_or (slice_set flags index false) p false ≡ (get_or old p false && not (is_among (take n indices) p || (index == p)))
  by p true e = subst (λ (q : ℕ). get_or (slice_set flags index false) q false ≡ false) (eqb-true index p e) (get_unset flags index)
      ∙ none (get_or old p false) (is_among (take n indices) p) ∙ ap (λ (b : Bool). get_or old p false && not (is_among (take n indices) p || b)) (sym e)
  by p false e = get_set_apart flags index p false (λ q. eqb-false index p e (sym q)) ∙ h.each p ∙ same (get_or old p false) (is_among (take n indices) p)
      ∙ ap (λ (b : Bool). get_or old p false && not (is_among (take n indices) p || b)) (sym e)

-- all lose their flags one after the other
pub unset_more : (flags next : List Bool) (n : ℕ) → ((p : ℕ) → p < n → get_or flags p false ≡ false) → next ≡ slice_set flags n false → (p : ℕ) → p < n + 1 → get_or next p false ≡ false
unset_more flags next n h e p lt = ap (λ (fs : List Bool). get_or fs p false) e ∙ by (n == p) refl where
  by : (b : Bool) → (n == p) ≡ b → get_or (slice_set flags n false) p false ≡ false
  by true k = subst (λ (q : ℕ). get_or (slice_set flags n false) q false ≡ false) (eqb-true n p k) (get_unset flags n)
  by false k = elim (cases_lt p n) [
    | inl less ↦ get_set_apart flags n p false (λ q. eqb-false n p k (sym q)) ∙ h p less
    | inr most ↦ let same : n ≡ p = omega (arith, most, lt) in absurd (eqb-false n p k same)
  ]

pub unset_over : (flags : List Bool) (n : ℕ) → ((p : ℕ) → p < n → get_or flags p false ≡ false) → length flags ≤ n → (p : ℕ) → get_or flags p false ≡ false
unset_over flags n h most p = elim (cases_lt p n) [
  | inl less ↦ h p less
  | inr over ↦ none_over flags p (omega (arith, most, over))
] where
  none_over : (fs : List Bool) (q : ℕ) → length fs ≤ q → get_or fs q false ≡ false
  none_over [] q le = refl
  none_over (f ∷ fs) zero le = absurd (omega (arith, le))
  none_over (f ∷ fs) (suc q) le = none_over fs q (omega (arith, le))

take_all : (ws : List ℕ) (n : ℕ) → length ws ≤ n → take n ws ≡ ws
take_all [] zero h = refl
take_all [] (suc n) h = refl
take_all (w ∷ ws) zero h = absurd (omega (arith, h))
take_all (w ∷ ws) (suc n) h = ap (λ (xs : List ℕ). w ∷ xs) (take_all ws n (omega (arith, h)))

pub unflag_over : (old : List Bool) (indices : List ℕ) (flags : List Bool) (n : ℕ) → IsUnflagged old indices flags n → length indices ≤ n → (p : ℕ) → get_or flags p false ≡ (get_or old p false && not (is_among indices p))
unflag_over old indices flags n h most p = h.each p ∙ ap (λ (ws : List ℕ). get_or old p false && not (is_among ws p)) (take_all indices n most)

-- what is marked is there
pub marked_there : (marks : List Bool) (p : ℕ) → get_or marks p false ≡ true → p < length marks
marked_there [] p h = absurd cc
marked_there (m ∷ marks) zero h = omega arith
marked_there (m ∷ marks) (suc p) h = let k = marked_there marks p h in omega (arith, k)

-- none is after all of them
pub none_following : (ws : List ℕ) (n p : ℕ) → length ws ≤ n → is_among (drop n ws) p ≡ false
none_following [] zero p le = refl
none_following [] (suc n) p le = refl
none_following (w ∷ ws) zero p le = absurd (omega (arith, le))
none_following (w ∷ ws) (suc n) p le = none_following ws n p (omega (arith, le))

-- marked units one after the other
module _ (files : List Read) (cached : List Input) (indices : List ℕ) where
  -- no flag is missing but those of the units after the first n of them
  abbrev pub IsResettled : List Bool → ℕ → Type 0
  IsResettled flags n = (p : ℕ) → p < length files → IsFullAt files cached flags p ⊎ (is_among (drop n indices) p ≡ true)

  pub resettled_begun : (marks flags : List Bool) → ((p : ℕ) → is_among indices p ≡ get_or marks p false) → ((p : ℕ) → p < length files → get_or marks p false ≡ false → IsFullAt files cached flags p) → IsResettled flags 0
  resettled_begun marks flags reported full p lt = by (get_or marks p false) refl where
    by : (b : Bool) → get_or marks p false ≡ b → IsFullAt files cached flags p ⊎ (is_among indices p ≡ true)
    by true e = inr (reported p ∙ e)
    by false e = inl (full p lt e)

  pub resettled_more : (flags next : List Bool) (n index : ℕ) → IsResettled flags n → drop n indices ≡ index ∷ drop (n + 1) indices
      → ((p : ℕ) → p < length files → IsFullAt files cached flags p ⊎ (index ≡ p) → IsFullAt files cached next p) → IsResettled next (n + 1)
  resettled_more flags next n index h split more p lt = elim (h p lt) [
    | inl k ↦ inl (more p lt (inl k))
    | inr k ↦ by (index == p) refl (sym (ap (λ (ws : List ℕ). is_among ws p) split) ∙ k)
  ] where
    by : (b : Bool) → (index == p) ≡ b → (b || is_among (drop (n + 1) indices) p) ≡ true → IsFullAt files cached next p ⊎ (is_among (drop (n + 1) indices) p ≡ true)
    by true e m = inl (more p lt (inr (eqb-true index p e)))
    by false e m = inr m

  pub all_resettled : (flags : List Bool) (n : ℕ) → length indices ≤ n → IsResettled flags n → IsFull files cached flags (length files)
  all_resettled flags n most h p lt = elim (h p lt) [
    | inl k ↦ k
    | inr k ↦ let none = none_following indices n p most in absurd (cc (none, k))
  ]

-- the flags after the edit of the file at an index
module _ (files one later : List Read) (file : Read) (at : ℕ) (project : IsProject files) (same : one ≡ files) (put_is : later ≡ put one file) (e : index file.name files ≡ Some at) where
  put_later : later ≡ put files file
  put_later = put_is ∙ ap (λ (fs : List Read). put fs file) same

  pub long_at : length later ≡ length files
  long_at = still_long files later file at project put_later e

  module _ (cached : List Input) (readers slice : List ℕ) (marks flags next : List Bool) (r : readers ≡ readers_at files at) (s : slice ≡ readers) (are : AreFlags files cached flags)
      (here : get_or marks at false ≡ true) (reported : (p : ℕ) → is_among slice p ≡ true → get_or marks p false ≡ true) (closed : IsClosed (graph_of one) flags true marks)
      (left : (p : ℕ) → get_or next p false ≡ (get_or flags p false && not (get_or marks p false)))
      (reading : (fs : List Read) (p q : ℕ) → IsProject fs → p < length fs → q < length fs → is_among (readers_at fs q) p ≡ names.is_among (read_names fs (name_at fs p)) (name_at fs q))
      (spelled : AreSpelled files) (units : (fs : List Read) (u v : List ℕ) → AreSpelled fs → Uses fs u v → is_unit v ≡ true)
      (apart : (fs : List Read) (f : Read) (ks : List Input) (u : List ℕ) → IsProject fs → IsApart fs f.name u → done (put fs f) ks u ≡ done fs ks u)
      (files_put : (fs : List Read) (f : Read) (n : List ℕ) → file_of (put fs f) n ≡ cond (bytes_eq f.name n) f (file_of fs n)) (rises : (fs : List Read) (f : Read) → IsProject fs → IsProject (put fs f))
      (step : (fs : List Read) (ks : List Input) (u : List ℕ) → IsProject fs → done fs ks u ≡ done_step fs ks u (done fs ks)) where
    same_at : (u : List ℕ) → ((q : ℕ) → index u files ≡ Some q → get_or marks q false ≡ false) → done later cached u ≡ done files cached u
    same_at u h =
        unmarked_same files project file.name at marks e (λ p k. reported p (ap (λ (ws : List ℕ). is_among ws p) (s ∙ r) ∙ k)) flags (subst (λ (fs : List Read). IsClosed (graph_of fs) flags true marks) same closed)
        (λ p q. reading files p q) (λ v w. units files v w spelled) later file cached refl put_later here apart files_put rises step u h

    -- and what an outcome of it would have looked at
    pub looked_at : ((fs : List Read) (f : Read) (ks : List Input) (u : List ℕ) → IsApart fs f.name u → looked (put fs f) ks u ≡ looked fs ks u) → (u : List ℕ) → ((q : ℕ) → index u files ≡ Some q → get_or marks q false ≡ false) → looked later cached u ≡ looked files cached u
    looked_at law u h = by (is_unit u) refl where
      by : (b : Bool) → is_unit u ≡ b → looked later cached u ≡ looked files cached u
      by true unit =
          ap (λ (fs : List Read). looked fs cached u) put_later
          ∙ law files file cached u (unmarked_apart files project file.name at marks e (λ p k. reported p (ap (λ (ws : List ℕ). is_among ws p) (s ∙ r) ∙ k)) flags (subst (λ (fs : List Read). IsClosed (graph_of fs) flags true marks) same closed)
          (λ p q. reading files p q) (λ v w. units files v w spelled) u unit h)
      by false none = no_input later (cached_check cached) u none ∙ sym (no_input files (cached_check cached) u none)

    indices_at : (u : List ℕ) → index u later ≡ index u files
    indices_at u = still_placed files later file at project put_later e u

    later_project : IsProject later
    later_project = subst IsProject (sym put_later) (rises files file project)

    pub sound_at : IsSound later cached next
    sound_at = sound_after files later file.name cached flags marks next are indices_at left same_at

    pub full_at : (p : ℕ) → p < length later → get_or marks p false ≡ false → IsFullAt later cached next p
    full_at = full_after files later file.name cached flags marks next are indices_at left same_at later_project (λ u. step later cached u later_project)
