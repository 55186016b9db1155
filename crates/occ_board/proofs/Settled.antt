-- Flags of which none is wrong and none is missing are those of the units that are done.
use Rattle.std.proofs.Common.{◌≡◌, ◌<◌, ◌≤◌, ◌+◌, ◌&&◌, ℕ, zero, suc, Bool, true, false, cond, List, [], ◌∷◌, length, get_or, Option, Some, None, refl, sym, ap, subst, ◌∙◌, arith, inl, inr, ◌⊎◌}
use Rattle.std.specs.List.{list_all, slice_get}
use Rattle.std.specs.Prelude.{slice_set}
use Rattle.std.specs.Option.{is_some, option_map, unwrap_or}
use Rattle.occ_board.proofs.Heights.{along_rests}
use Rattle.occ_board.proofs.Indices.{filed, name_there, named, open_index}
use Rattle.occ_board.proofs.Truths.{all_by, both_true, left_true, right_true, same_truth}
use Rattle.occ_board.specs.Done.{done, done_step, is_cached}
use Rattle.occ_board.specs.Journal.{is_open}
use Rattle.occ_board.specs.inside.Flagged.{AreFlags, IsFull, IsFullAt, IsSound, flag_of, unflagged}
use Rattle.occ_board.specs.inside.Ready.{is_rested}
use Rattle.occ_check.specs.Input.{Input}
use Rattle.occ_project.specs.Entries.{is_among}
use Rattle.occ_project.specs.Reads.{index}
use Rattle.occ_project.specs.declared.reads.Read.{Read}
use Rattle.occ_check.specs.Checks.{input}
use Rattle.occ_project_units.proofs.Finding.{index_within}
use Rattle.occ_project_units.specs.Along.{name_at}
use Rattle.occ_project_units.specs.Indices.{rest_units}
use Rattle.occ_project_units.specs.Project.{IsProject}

pub flag_at : (files : List Read) (flags : List Bool) (u : List ℕ) (p : ℕ) → index u files ≡ Some p → flag_of files flags u ≡ get_or flags p false
flag_at files flags u p e = ap (λ (o : Option ℕ). unwrap_or (option_map (λ p. get_or flags p false) o) false) e

pub no_flag : (files : List Read) (flags : List Bool) (u : List ℕ) → index u files ≡ None → flag_of files flags u ≡ false
no_flag files flags u e = ap (λ (o : Option ℕ). unwrap_or (option_map (λ p. get_or flags p false) o) false) e

module _ (files : List Read) (cached : List Input) where
  -- the parts of a step
  pub is_step : (u : List ℕ) (f : List ℕ → Bool) → is_open files u ≡ true → is_cached cached (input files u) ≡ true → list_all f (rest_units files u) ≡ true → done_step files cached u f ≡ true
  is_step u f a b c = both_true (is_open files u) (is_cached cached (input files u) && list_all f (rest_units files u)) a (both_true (is_cached cached (input files u)) (list_all f (rest_units files u)) b c)

  pub step_open : (u : List ℕ) (f : List ℕ → Bool) → done_step files cached u f ≡ true → is_open files u ≡ true
  step_open u f h = left_true (is_open files u) (is_cached cached (input files u) && list_all f (rest_units files u)) h

  pub step_cached : (u : List ℕ) (f : List ℕ → Bool) → done_step files cached u f ≡ true → is_cached cached (input files u) ≡ true
  step_cached u f h = left_true (is_cached cached (input files u)) (list_all f (rest_units files u)) (right_true (is_open files u) (is_cached cached (input files u) && list_all f (rest_units files u)) h)

  pub step_rests : (u : List ℕ) (f : List ℕ → Bool) → done_step files cached u f ≡ true → list_all f (rest_units files u) ≡ true
  step_rests u f h = right_true (is_cached cached (input files u)) (list_all f (rest_units files u)) (right_true (is_open files u) (is_cached cached (input files u) && list_all f (rest_units files u)) h)

  -- what more flags give
  pub step_more : (u : List ℕ) (f g : List ℕ → Bool) → ((v : List ℕ) → is_among (rest_units files u) v ≡ true → f v ≡ true → g v ≡ true) → done_step files cached u f ≡ true → done_step files cached u g ≡ true
  step_more u f g h e = is_step u g (step_open u f e) (step_cached u f e) (all_by f g (rest_units files u) h (step_rests u f e))

  pub rests_done : (flags : List Bool) (u : List ℕ) → IsSound files cached flags → list_all (flag_of files flags) (rest_units files u) ≡ true → list_all (done files cached) (rest_units files u) ≡ true
  rests_done flags u sound h = all_by (flag_of files flags) (done files cached) (rest_units files u) (λ v a k. sound v k) h

  module _ (law : (u : List ℕ) → done files cached u ≡ done_step files cached u (done files cached)) where
    pub step_done : (flags : List Bool) (u : List ℕ) → IsSound files cached flags → done_step files cached u (flag_of files flags) ≡ true → done files cached u ≡ true
    step_done flags u sound h = law u ∙ step_more u (flag_of files flags) (done files cached) (λ v a k. sound v k) h

    none_missing : (flags : List Bool) (h : List ℕ → ℕ) → ((u v : List ℕ) → is_among (rest_units files u) v ≡ true → h v < h u) → IsFull files cached flags (length files) → (u : List ℕ) → done files cached u ≡ true → flag_of files flags u ≡ true
    none_missing flags h fall full = along_rests files h fall (λ u. done files cached u ≡ true → flag_of files flags u ≡ true) (λ u rests d.
        let step : done_step files cached u (done files cached) ≡ true = sym (law u) ∙ d in
        let flagged : done_step files cached u (flag_of files flags) ≡ true = step_more u (done files cached) (flag_of files flags) rests step in
        let there = open_index files u (step_open u (done files cached) step) in
        let here : done_step files cached (name_at files there.0) (flag_of files flags) ≡ true = subst (λ (v : List ℕ). done_step files cached v (flag_of files flags) ≡ true) (sym (name_there files u there.0 there.1)) flagged in
        flag_at files flags u there.0 there.1 ∙ full there.0 (index_within u files there.0 there.1) here)

    pub are_flags : (flags : List Bool) (h : List ℕ → ℕ) → ((u v : List ℕ) → is_among (rest_units files u) v ≡ true → h v < h u) → IsSound files cached flags → IsFull files cached flags (length files) → AreFlags files cached flags
    are_flags flags h fall sound full u = same_truth (flag_of files flags u) (done files cached u) (sound u) (none_missing flags h fall full u)

-- where nothing is cached none is missing
pub none_cached : (files : List Read) (cached : List Input) (flags : List Bool) → cached ≡ [] → IsFull files cached flags (length files)
none_cached files cached flags e p lt h =
    let its = step_cached files cached (name_at files p) (flag_of files flags) h in
    let none : is_cached cached (input files (name_at files p)) ≡ false = ap (λ (ks : List Input). is_cached ks (input files (name_at files p))) e in
    absurd (cc (none, its))

-- where none is set anything holds of the units whose flags are
pub none_each : (files : List Read) (P : List ℕ → Type 0) (flags : List Bool) → ((p : ℕ) → get_or flags p false ≡ false) → (u : List ℕ) → flag_of files flags u ≡ true → P u
none_each files P flags none u h = by (index u files) refl where
  by : (o : Option ℕ) → index u files ≡ o → P u
  by None e = let apart = no_flag files flags u e in absurd (cc (apart, h))
  by (Some p) e = let apart = flag_at files flags u p e ∙ none p in absurd (cc (apart, h))

set_other : (flags : List Bool) (p q : ℕ) → get_or (slice_set flags p true) q false ≡ true → (p ≡ q) ⊎ (get_or flags q false ≡ true)
set_other [] p q h = inr h
set_other (f ∷ flags) zero zero h = inl refl
set_other (f ∷ flags) zero (suc q) h = inr h
set_other (f ∷ flags) (suc p) zero h = inr h
set_other (f ∷ flags) (suc p) (suc q) h = elim (set_other flags p q h) [
  | inl e ↦ inl (ap suc e)
  | inr k ↦ inr k
]

-- what holds of the units whose flags are set, where one more is
pub set_each : (files : List Read) (P : List ℕ → Type 0) (flags : List Bool) (p : ℕ) → ((u : List ℕ) → flag_of files flags u ≡ true → P u) → P (name_at files p) → (u : List ℕ) → flag_of files (slice_set flags p true) u ≡ true → P u
set_each files P flags p each here u h = by (index u files) refl where
  by : (o : Option ℕ) → index u files ≡ o → P u
  by None e = let none = no_flag files (slice_set flags p true) u e in absurd (cc (none, h))
  by (Some q) e = elim (set_other flags p q (sym (flag_at files (slice_set flags p true) u q e) ∙ h)) [
    | inl s ↦ subst P (ap (name_at files) s ∙ name_there files u q e) here
    | inr k ↦ each u (flag_at files flags u q e ∙ k)
  ]

-- nor is one wrong where one more is set of a unit that is done
pub set_sound : (files : List Read) (cached : List Input) (flags : List Bool) (p : ℕ) → IsSound files cached flags → done files cached (name_at files p) ≡ true → IsSound files cached (slice_set flags p true)
set_sound files cached flags p sound d = set_each files (λ u. done files cached u ≡ true) flags p sound d

next : (n : ℕ) → 0 + n < 1 + n
next n = omega arith

more : (b : Bool) (m n : ℕ) → m < n → cond b 0 1 + m < cond b 0 1 + n
more true m n lt = let g : 0 + m < 0 + n = omega (arith, lt) in g
more false m n lt = let g : 1 + m < 1 + n = omega (arith, lt) in g

pub set_fewer : (flags : List Bool) (p : ℕ) → p < length flags → get_or flags p false ≡ false → unflagged (slice_set flags p true) < unflagged flags
set_fewer [] p lt e = absurd (omega (arith, lt))
set_fewer (f ∷ flags) zero lt e = subst (λ (b : Bool). unflagged (true ∷ flags) < unflagged (b ∷ flags)) (sym e) (next (unflagged flags))
set_fewer (f ∷ flags) (suc p) lt e =
    let rest : unflagged (slice_set flags p true) < unflagged flags = set_fewer flags p (omega (arith, lt)) e in
    more f (unflagged (slice_set flags p true)) (unflagged flags) rest

-- what one pass has come to, at an index
pub record IsPass (files : List Read) (cached : List Input) (old flags : List Bool) (advanced : Bool) (n : ℕ) : Type 0 where
  pub len : length flags ≡ length files
  pub sound : IsSound files cached flags
  pub least : unflagged flags ≤ unflagged old
  pub fewer : advanced ≡ true → unflagged flags < unflagged old
  pub full : advanced ≡ false → IsFull files cached flags n

pub begun : (files : List Read) (cached : List Input) (flags : List Bool) → length flags ≡ length files → IsSound files cached flags → IsPass files cached flags flags false 0
begun files cached flags len sound = record { len = len; sound = sound; least = omega arith; fewer = λ e. absurd cc; full = λ e p lt. absurd (omega (arith, lt)) }

pub last_or_less : (n p : ℕ) → p < n + 1 → (p ≡ n) ⊎ (p < n)
last_or_less zero zero h = inl refl
last_or_less zero (suc p) h = absurd (omega (arith, h))
last_or_less (suc n) zero h = inr (omega arith)
last_or_less (suc n) (suc p) h = elim (last_or_less n p (omega (arith, h))) [
  | inl e ↦ inl (ap suc e)
  | inr k ↦ inr (omega (arith, k))
]

full_more : (files : List Read) (cached : List Input) (flags : List Bool) (n : ℕ) → IsFull files cached flags n → IsFullAt files cached flags n → IsFull files cached flags (n + 1)
full_more files cached flags n full here p lt = elim (last_or_less n p lt) [
  | inl e ↦ subst (IsFullAt files cached flags) (sym e) here
  | inr k ↦ full p k
]

-- a flag more
pub advanced : (files : List Read) (cached : List Input) (old flags next : List Bool) (b : Bool) (n : ℕ) → IsPass files cached old flags b n → length next ≡ length files → IsSound files cached next → unflagged next < unflagged flags → IsPass files cached old next true (n + 1)
advanced files cached old flags next b n h len sound less = record {
  len = len;
  sound = sound;
  least = omega (arith, less, h.least);
  fewer = λ e. omega (arith, less, h.least);
  full = λ e. absurd cc;
}

-- and none
pub stayed : (files : List Read) (cached : List Input) (old flags next : List Bool) (b : Bool) (n : ℕ) → IsPass files cached old flags b n → next ≡ flags → IsFullAt files cached next n → IsPass files cached old next b (n + 1)
stayed files cached old flags next b n h same here =
    subst (λ (fs : List Bool). IsPass files cached old fs b (n + 1)) (sym same) (record {
      len = h.len;
      sound = h.sound;
      least = h.least;
      fewer = h.fewer;
      full = λ e. full_more files cached flags n (h.full e) (subst (λ (fs : List Bool). IsFullAt files cached fs n) same here);
    })

-- whether a file is done, by its parts
and_false : (a k b : Bool) → b ≡ false → false ≡ (a && (k && b))
and_false true true b e = sym e
and_false true false b e = refl
and_false false k b e = refl

and_true : (a k b : Bool) → a ≡ true → b ≡ true → k ≡ (a && (k && b))
and_true true true true e f = refl
and_true true true false e f = absurd cc
and_true true false b e f = refl
and_true false k b e f = absurd cc

pub step_closed : (files : List Read) (cached : List Input) (flags : List Bool) (p : ℕ) (file : Read) → IsProject files → slice_get files p ≡ Some file → is_some file.source ≡ false → false ≡ done_step files cached file.name (flag_of files flags)
step_closed files cached flags p file s e shut =
    let closed : is_open files file.name ≡ false = ap (λ (f : Read). is_some f.source) (filed files p file s e) ∙ shut in
    sym (ap (λ (b : Bool). b && (is_cached cached (input files file.name) && list_all (flag_of files flags) (rest_units files file.name))) closed)

pub step_waits : (files : List Read) (cached : List Input) (flags : List Bool) (p : ℕ) (file : Read) → slice_get files p ≡ Some file → list_all (flag_of files flags) (rest_units files (name_at files p)) ≡ false → false ≡ done_step files cached file.name (flag_of files flags)
step_waits files cached flags p file e none =
    and_false (is_open files file.name) (is_cached cached (input files file.name)) (list_all (flag_of files flags) (rest_units files file.name)) (ap (λ (n : List ℕ). list_all (flag_of files flags) (rest_units files n)) (sym (named files p file e)) ∙ none)

pub step_is : (files : List Read) (cached : List Input) (flags : List Bool) (p : ℕ) (file : Read) → IsProject files → slice_get files p ≡ Some file → is_some file.source ≡ true → list_all (flag_of files flags) (rest_units files (name_at files p)) ≡ true
    → is_cached cached (input files file.name) ≡ done_step files cached file.name (flag_of files flags)
step_is files cached flags p file s e opened rests =
    and_true (is_open files file.name) (is_cached cached (input files file.name)) (list_all (flag_of files flags) (rest_units files file.name)) (ap (λ (f : Read). is_some f.source) (filed files p file s e) ∙ opened)
    (ap (λ (n : List ℕ). list_all (flag_of files flags) (rest_units files n)) (sym (named files p file e)) ∙ rests)

pub file_rested : (files : List Read) (cached : List Input) (flags : List Bool) (p : ℕ) (file : Read) → slice_get files p ≡ Some file → IsSound files cached flags → list_all (flag_of files flags) (rest_units files (name_at files p)) ≡ true → is_rested files cached file.name ≡ true
file_rested files cached flags p file e sound rests = rests_done files cached flags file.name sound (ap (λ (n : List ℕ). list_all (flag_of files flags) (rest_units files n)) (sym (named files p file e)) ∙ rests)
