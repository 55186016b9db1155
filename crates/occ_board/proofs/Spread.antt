-- Flags that are set along what rests on a unit that is done.
use Rattle.std.proofs.Common.{◌≡◌, ◌<◌, ◌≤◌, ◌+◌, ◌&&◌, ◌||◌, ℕ, zero, suc, Bool, true, false, List, [], ◌∷◌, length, get_or, Some, None, refl, sym, ap, subst, ◌∙◌, arith, inl, inr, ◌⊎◌, drop}
use Rattle.std.specs.Prelude.{◌==◌, slice_set}
use Rattle.std.specs.List.{list_all, slice_get}
use Rattle.std.proofs.lemmas.Bool.{eq-eqb, eqb-false, eqb-true}
use Rattle.std.proofs.lemmas.Slice.Eq.{bytes_eq-Decides}
use Rattle.std.specs.Str.{bytes_eq}
use Rattle.occ_board.proofs.Indices.{named, placed, there_is}
use Rattle.occ_board.proofs.Rests.{rests_flagged}
use Rattle.occ_board.proofs.Settled.{step_rests}
use Rattle.occ_board.specs.Done.{done_step, is_cached}
use Rattle.occ_board.specs.Journal.{is_open}
use Rattle.occ_board.specs.inside.Flagged.{IsFull, IsFullAt, IsSound, absent_or, flag_of, rest_flag, unflagged}
use Rattle.occ_check.specs.Input.{Input}
use Rattle.occ_project_graph.specs.Graph.{is_among, rests}
use Rattle.occ_project.specs.Reads.{index}
use Rattle.occ_project.specs.declared.reads.Read.{Read}
use Rattle.occ_check.specs.Checks.{input}
use Rattle.occ_project_units.specs.Along.{name_at}
use Rattle.occ_project_units.specs.Indices.{graph_of, rest_units, users_at}
use Rattle.occ_project_units.specs.Project.{IsProject}

-- setting one flag
pub set_apart : (flags : List Bool) (w q : ℕ) → (q ≡ w → ⊥) → get_or (slice_set flags w true) q false ≡ get_or flags q false
set_apart [] w q n = refl
set_apart (f ∷ flags) zero zero n = absurd (n refl)
set_apart (f ∷ flags) zero (suc q) n = refl
set_apart (f ∷ flags) (suc w) zero n = refl
set_apart (f ∷ flags) (suc w) (suc q) n = set_apart flags w q (λ e. n (ap suc e))

pub set_stays : (flags : List Bool) (w q : ℕ) → get_or flags q false ≡ true → get_or (slice_set flags w true) q false ≡ true
set_stays [] w q h = h
set_stays (f ∷ flags) zero zero h = refl
set_stays (f ∷ flags) zero (suc q) h = h
set_stays (f ∷ flags) (suc w) zero h = h
set_stays (f ∷ flags) (suc w) (suc q) h = set_stays flags w q h

pub set_here : (flags : List Bool) (w : ℕ) → w < length flags → get_or (slice_set flags w true) w false ≡ true
set_here [] w lt = absurd (omega (arith, lt))
set_here (f ∷ flags) zero lt = refl
set_here (f ∷ flags) (suc w) lt = set_here flags w (omega (arith, lt))

pub among_there : (ws : List ℕ) (i : ℕ) → i < length ws → is_among ws (get_or ws i 0) ≡ true
among_there [] i lt = absurd (omega (arith, lt))
among_there (x ∷ ws) zero lt = ap (λ (b : Bool). b || is_among ws x) (eq-eqb x x refl)
among_there (x ∷ ws) (suc i) lt = by (x == get_or ws i 0) (among_there ws i (omega (arith, lt))) where
  by : (b : Bool) → is_among ws (get_or ws i 0) ≡ true → (b || is_among ws (get_or ws i 0)) ≡ true
  by true h = refl
  by false h = h

-- what setting flags along the first i users of the unit at an index has come to
pub record IsSpread (files : List Read) (cached : List Input) (users : List ℕ) (old flags : List Bool) (at i : ℕ) : Type 0 where
  pub len : length flags ≡ length files
  pub sound : IsSound files cached flags
  pub fewer : unflagged flags < unflagged old
  pub full : (p : ℕ) → p < length files → IsFullAt files cached old p ⊎ (at ≡ p) → IsFullAt files cached flags p ⊎ (is_among (drop i users) p ≡ true)

module _ (files : List Read) (cached : List Input) (project : IsProject files) where
  -- a flag is no matter to what does not rest on its unit
  rests_stay : (flags : List Bool) (w : ℕ) (qs : List ℕ) → is_among qs w ≡ false → list_all (rest_flag files (slice_set flags w true)) qs ≡ list_all (rest_flag files flags) qs
  rests_stay flags w [] e = refl
  rests_stay flags w (q ∷ qs) e = by (q == w) refl e (λ k. rests_stay flags w qs k) where
    by : (b : Bool) → (q == w) ≡ b → (b || is_among qs w) ≡ false → (is_among qs w ≡ false → list_all (rest_flag files (slice_set flags w true)) qs ≡ list_all (rest_flag files flags) qs)
        → list_all (rest_flag files (slice_set flags w true)) (q ∷ qs) ≡ list_all (rest_flag files flags) (q ∷ qs)
    by true h k rest = absurd cc
    by false h k rest = ap (λ (b : Bool). absent_or (slice_get files q) b && list_all (rest_flag files (slice_set flags w true)) qs) (set_apart flags w q (eqb-false q w h)) ∙ ap (λ (b : Bool). rest_flag files flags q && b) (rest k)

  step_stays : (flags : List Bool) (w p : ℕ) → p < length files → is_among (rests (graph_of files) p) w ≡ false
      → done_step files cached (name_at files p) (flag_of files (slice_set flags w true)) ≡ done_step files cached (name_at files p) (flag_of files flags)
  step_stays flags w p lt e =
      ap (λ (b : Bool). is_open files (name_at files p) && (is_cached cached (input files (name_at files p)) && b))
      (sym (rests_flagged files (slice_set flags w true) p project lt) ∙ rests_stay flags w (rests (graph_of files) p) e ∙ rests_flagged files flags p project lt)

  module _ (users : (p q : ℕ) → is_among (rests (graph_of files) p) q ≡ true → is_among (users_at files q) p ≡ true) where
    apart : (p w : ℕ) → is_among (users_at files w) p ≡ false → is_among (rests (graph_of files) p) w ≡ false
    apart p w none = by (is_among (rests (graph_of files) p) w) refl where
      by : (b : Bool) → is_among (rests (graph_of files) p) w ≡ b → b ≡ false
      by false e = refl
      by true e = let there = users p w e in absurd (cc (there, none))

    -- nor to what the units that do not use it rest on
    pub rests_same : (flags : List Bool) (w p : ℕ) → p < length files → is_among (users_at files w) p ≡ false
        → list_all (flag_of files (slice_set flags w true)) (rest_units files (name_at files p)) ≡ list_all (flag_of files flags) (rest_units files (name_at files p))
    rests_same flags w p lt none = sym (rests_flagged files (slice_set flags w true) p project lt) ∙ rests_stay flags w (rests (graph_of files) p) (apart p w none) ∙ rests_flagged files flags p project lt

    -- so with one flag more none is missing but of what rests on it
    pub set_full : (flags : List Bool) (w p : ℕ) → p < length files → w < length flags → IsFullAt files cached flags p ⊎ (w ≡ p) → IsFullAt files cached (slice_set flags w true) p ⊎ (is_among (users_at files w) p ≡ true)
    set_full flags w p lt within full = by (is_among (users_at files w) p) refl where
      by : (b : Bool) → is_among (users_at files w) p ≡ b → IsFullAt files cached (slice_set flags w true) p ⊎ (is_among (users_at files w) p ≡ true)
      by true e = inr e
      by false e = inl (elim full [
        | inl k ↦ λ h. set_stays flags w p (k (sym (step_stays flags w p lt (apart p w e)) ∙ h))
        | inr k ↦ λ h. subst (λ (q : ℕ). get_or (slice_set flags w true) q false ≡ true) k (set_here flags w within)
      ])

  -- one user more
  pub user_full : (users : List ℕ) (flags next : List Bool) (i user p : ℕ) → drop i users ≡ user ∷ drop (i + 1) users → IsFullAt files cached flags p ⊎ (is_among (drop i users) p ≡ true)
      → (IsFullAt files cached flags p ⊎ (user ≡ p) → IsFullAt files cached next p) → IsFullAt files cached next p ⊎ (is_among (drop (i + 1) users) p ≡ true)
  user_full users flags next i user p split full reported = elim full [
    | inl k ↦ inl (reported (inl k))
    | inr k ↦ by (user == p) refl (sym (ap (λ (ws : List ℕ). is_among ws p) split) ∙ k)
  ] where
    by : (b : Bool) → (user == p) ≡ b → (b || is_among (drop (i + 1) users) p) ≡ true → IsFullAt files cached next p ⊎ (is_among (drop (i + 1) users) p ≡ true)
    by true e h = inl (reported (inr (eqb-true user p e)))
    by false e h = inr h

  none_after : (ws : List ℕ) (p : ℕ) → is_among (drop (length ws) ws) p ≡ false
  none_after [] p = refl
  none_after (w ∷ ws) p = none_after ws p

  pub all_full : (users : List ℕ) (flags : List Bool) (i p : ℕ) → length users ≤ i → i ≤ length users → IsFullAt files cached flags p ⊎ (is_among (drop i users) p ≡ true) → IsFullAt files cached flags p
  all_full users flags i p most least full = elim full [
    | inl k ↦ k
    | inr k ↦
        let end : i ≡ length users = omega (arith, most, least) in
        let none : is_among (drop i users) p ≡ false = ap (λ (n : ℕ). is_among (drop n users) p) end ∙ none_after users p in
        absurd (cc (none, k))
  ]

  pub some_is : (m n : ℕ) → Some m ≡ Some n → m ≡ n
  some_is m n s = cc

  -- from one unit all are come to
  pub placed_there : (p : ℕ) → p < length files → index (name_at files p) files ≡ Some p
  placed_there p lt = let there = there_is files p lt in ap (λ (n : List ℕ). index n files) (named files p there.0 there.1) ∙ placed files p there.0 project there.1

  pub full_from : (old flags : List Bool) (unit : List ℕ) (at : ℕ) → index unit files ≡ Some at → ((p : ℕ) → p < length files → bytes_eq unit (name_at files p) ≡ false → IsFullAt files cached old p)
      → ((p : ℕ) → p < length files → IsFullAt files cached old p ⊎ (at ≡ p) → IsFullAt files cached flags p) → IsFull files cached flags (length files)
  full_from old flags unit at e others reported p lt = by (bytes_eq unit (name_at files p)) refl where
    by : (b : Bool) → bytes_eq unit (name_at files p) ≡ b → IsFullAt files cached flags p
    by true h =
        let same : unit ≡ name_at files p = (bytes_eq-Decides unit (name_at files p)).0 h in
        let here : Some at ≡ Some p = sym e ∙ ap (λ (n : List ℕ). index n files) same ∙ placed_there p lt in
        reported p lt (inr (some_is at p here))
    by false h = reported p lt (inl (others p lt h))

  pub full_else : (flags : List Bool) (unit : List ℕ) → index unit files ≡ None → ((p : ℕ) → p < length files → bytes_eq unit (name_at files p) ≡ false → IsFullAt files cached flags p) → IsFull files cached flags (length files)
  full_else flags unit e others p lt = by (bytes_eq unit (name_at files p)) refl where
    by : (b : Bool) → bytes_eq unit (name_at files p) ≡ b → IsFullAt files cached flags p
    by true h =
        let same : unit ≡ name_at files p = (bytes_eq-Decides unit (name_at files p)).0 h in
        let here : None ≡ Some p = sym e ∙ ap (λ (n : List ℕ). index n files) same ∙ placed_there p lt in
        absurd cc
    by false h = others p lt h

  -- the flag of a unit that is done is set
  pub spread_begun : ((p q : ℕ) → is_among (rests (graph_of files) p) q ≡ true → is_among (users_at files q) p ≡ true) → (users : List ℕ) (old next : List Bool) (w : ℕ) → users ≡ users_at files w → next ≡ slice_set old w true → length old ≡ length files → w < length files
      → length next ≡ length files → IsSound files cached next → unflagged next < unflagged old → IsSpread files cached users old next w 0
  spread_begun law users old next w u n long lt len sound fewer = record {
    len = len;
    sound = sound;
    fewer = fewer;
    full = λ p within full. elim (set_full law old w p within (omega (arith, long, lt)) full) [
      | inl k ↦ inl (subst (λ (fs : List Bool). IsFullAt files cached fs p) (sym n) k)
      | inr k ↦ inr (ap (λ (ws : List ℕ). is_among ws p) u ∙ k)
    ];
  }

  -- and those of one user more
  pub spread_more : (users : List ℕ) (old flags next : List Bool) (at i user : ℕ) → IsSpread files cached users old flags at i → drop i users ≡ user ∷ drop (i + 1) users → length next ≡ length files → IsSound files cached next → unflagged next ≤ unflagged flags
      → ((p : ℕ) → p < length files → IsFullAt files cached flags p ⊎ (user ≡ p) → IsFullAt files cached next p) → IsSpread files cached users old next at (i + 1)
  spread_more users old flags next at i user h split len sound least reported = record {
    len = len;
    sound = sound;
    fewer = let f = h.fewer in omega (arith, f, least);
    full = λ p within full. user_full users flags next i user p split (h.full p within full) (reported p within);
  }

  pub spread_over : (users : List ℕ) (old flags : List Bool) (at i : ℕ) → IsSpread files cached users old flags at i → length users ≤ i → i ≤ length users → (p : ℕ) → p < length files → IsFullAt files cached old p ⊎ (at ≡ p) → IsFullAt files cached flags p
  spread_over users old flags at i h most least p within full = all_full users flags i p most least (h.full p within full)

  pub spread_none : (old next : List Bool) (at : ℕ) → next ≡ old → IsFullAt files cached next at → (p : ℕ) → p < length files → IsFullAt files cached old p ⊎ (at ≡ p) → IsFullAt files cached next p
  spread_none old next at same here p within full = elim full [
    | inl k ↦ subst (λ (fs : List Bool). IsFullAt files cached fs p) (sym same) k
    | inr k ↦ subst (IsFullAt files cached next) k here
  ]

-- a unit that rests on one without a flag is not done by the flags
pub waiting_full : (files : List Read) (cached : List Input) (flags : List Bool) (at : ℕ) → list_all (flag_of files flags) (rest_units files (name_at files at)) ≡ false → (p : ℕ) → IsFullAt files cached flags p ⊎ (at ≡ p) → IsFullAt files cached flags p
waiting_full files cached flags at none p full = elim full [
  | inl k ↦ k
  | inr k ↦ subst (IsFullAt files cached flags) k (λ h.
      let rests : list_all (flag_of files flags) (rest_units files (name_at files at)) ≡ true = step_rests files cached (name_at files at) (flag_of files flags) h in
      absurd (cc (none, rests)))
]
