-- Places before which no unit is ready, as far as flags report.
use Rattle.std.proofs.Common.{◌≡◌, ◌∙◌, ◌<◌, ◌≤◌, ◌+◌, ◌&&◌, ◌⊎◌, ℕ, suc, Bool, true, false, not, List, [], ◌∷◌, length, get_or, Some, refl, sym, ap, subst, arith, inl, inr}
use Rattle.std.specs.BTreeSet.{BTreeSet, contains}
use Rattle.std.specs.List.{list_all, slice_get}
use Rattle.std.specs.Ordering.{nat_cmp}
use Rattle.std.specs.Prelude.{slice_set}
use Rattle.std.specs.Str.{bytes_eq}
use Rattle.std.proofs.lemmas.Slice.Eq.{bytes_eq-Decides}
use Rattle.occ_board.proofs.Marked.{marked_there}
use Rattle.occ_board.proofs.Indices.{within}
use Rattle.occ_board.proofs.Settled.{flag_at, last_or_less}
use Rattle.occ_board.proofs.Spread.{placed_there, rests_same, set_stays, some_is}
use Rattle.occ_board.specs.inside.Flagged.{AreFlags, IsFullAt, IsSound, flag_of, flagged}
use Rattle.occ_board.specs.inside.Ready.{AreAwaited, NoneIsReady, is_ready}
use Rattle.occ_check.specs.Input.{Input}
use Rattle.occ_project_graph.specs.Graph.{is_among, rests}
use Rattle.occ_project.specs.Reads.{index}
use Rattle.occ_project.specs.declared.reads.Read.{Read}
use Rattle.occ_check.specs.Report.{is_open_unit}
use Rattle.occ_project_units.specs.Along.{name_at}
use Rattle.occ_project_units.specs.Indices.{graph_of, rest_units, users_at}
use Rattle.occ_project_units.specs.Project.{IsProject}

-- one index more
pub one_waits : (files : List Read) (flags : List Bool) (n : ℕ) (here : Read) → slice_get files n ≡ Some here → is_ready files flags n here ≡ false → NoneIsReady files flags n → NoneIsReady files flags (n + 1)
one_waits files flags n here e none before p file lt is = elim (last_or_less n p lt) [
  | inl s ↦
      let same : Some here ≡ Some file = sym e ∙ ap (slice_get files) (sym s) ∙ is in
      subst (λ (q : ℕ). is_ready files flags q file ≡ false) (sym s) (subst (λ (f : Read). is_ready files flags n f ≡ false) (one_file here file same) none)
  | inr k ↦ before p file k is
] where
  one_file : (x y : Read) → Some x ≡ Some y → x ≡ y
  one_file x y s = cc

-- a file at an index that is ready there is the one that is found there
pub ready_there : (files : List Read) (flags : List Bool) (n : ℕ) (here file : Read) → slice_get files n ≡ Some here → is_ready files flags n here ≡ true → slice_get files n ≡ Some file → is_ready files flags n file ≡ true
ready_there files flags n here file e ready is = subst (λ (f : Read). is_ready files flags n f ≡ true) (one_file here file (sym e ∙ is)) ready where
  one_file : (x y : Read) → Some x ≡ Some y → x ≡ y
  one_file x y s = cc

pub fewer_wait : (files : List Read) (flags : List Bool) (m n : ℕ) → m ≤ n → NoneIsReady files flags n → NoneIsReady files flags m
fewer_wait files flags m n le before p file lt e = before p file (omega (arith, lt, le)) e

-- flags that have each other's, and as many
more_flagged : (fs gs : List Bool) → length fs ≡ length gs → ((p : ℕ) → get_or fs p false ≡ true → get_or gs p false ≡ true) → flagged fs ≤ flagged gs
more_flagged [] gs l h = omega arith
more_flagged (f ∷ fs) [] l h = absurd (omega (arith, l))
more_flagged (true ∷ fs) (true ∷ gs) l h =
    let k = more_flagged fs gs (omega (arith, l)) (λ p. h (suc p)) in
    let more : 1 + flagged fs ≤ 1 + flagged gs = omega (arith, k) in more
more_flagged (true ∷ fs) (false ∷ gs) l h = let k : false ≡ true = h 0 refl in absurd cc
more_flagged (false ∷ fs) (true ∷ gs) l h =
    let k = more_flagged fs gs (omega (arith, l)) (λ p. h (suc p)) in
    let more : 0 + flagged fs ≤ 1 + flagged gs = omega (arith, k) in more
more_flagged (false ∷ fs) (false ∷ gs) l h =
    let k = more_flagged fs gs (omega (arith, l)) (λ p. h (suc p)) in
    let more : 0 + flagged fs ≤ 0 + flagged gs = omega (arith, k) in more

pub same_flags : (fs gs : List Bool) → length fs ≡ length gs → ((p : ℕ) → get_or fs p false ≡ true → get_or gs p false ≡ true) → flagged gs ≡ flagged fs → gs ≡ fs
same_flags [] [] l h e = refl
same_flags [] (g ∷ gs) l h e = absurd (omega (arith, l))
same_flags (f ∷ fs) [] l h e = absurd (omega (arith, l))
same_flags (true ∷ fs) (true ∷ gs) l h e =
    let d : 1 + flagged gs ≡ 1 + flagged fs = e in
    ap (λ (xs : List Bool). true ∷ xs) (same_flags fs gs (omega (arith, l)) (λ p. h (suc p)) (omega (arith, d)))
same_flags (true ∷ fs) (false ∷ gs) l h e = let k : false ≡ true = h 0 refl in absurd cc
same_flags (false ∷ fs) (true ∷ gs) l h e =
    let d : 1 + flagged gs ≡ 0 + flagged fs = e in
    let k = more_flagged fs gs (omega (arith, l)) (λ p. h (suc p)) in
    absurd (omega (arith, d, k))
same_flags (false ∷ fs) (false ∷ gs) l h e =
    let d : 0 + flagged gs ≡ 0 + flagged fs = e in
    ap (λ (xs : List Bool). false ∷ xs) (same_flags fs gs (omega (arith, l)) (λ p. h (suc p)) (omega (arith, d)))

-- what is ready by more flags
still_unready : (b c r t o : Bool) → (b ≡ true → c ≡ true) → t ≡ r → (not b && (r && o)) ≡ false → (not c && (t && o)) ≡ false
still_unready true c r t o more same e = ap (λ (x : Bool). not x && (t && o)) (more refl)
still_unready false true r t o more same e = refl
still_unready false false r t o more same e = ap (λ (x : Bool). x && o) same ∙ e

no_truth : (b : Bool) → (b ≡ true → ⊥) → b ≡ false
no_truth true f = absurd (f refl)
no_truth false f = refl

module _ (files : List Read) (cached : List Input) (project : IsProject files) where
  -- a flag that is set stays where all are those of the units that are done
  pub stays_set : (flags next : List Bool) → length flags ≡ length files → IsSound files cached flags → AreFlags files cached next → (p : ℕ) → get_or flags p false ≡ true → get_or next p false ≡ true
  stays_set flags next len sound are p h =
      let long = marked_there flags p h in
      let at = placed_there files cached project p (omega (arith, long, len)) in
      sym (flag_at files next (name_at files p) p at) ∙ (are (name_at files p) ∙ sound (name_at files p) (flag_at files flags (name_at files p) p at ∙ h))

  -- with one flag more a unit is ready that was so before, or that rests on that one
  ready_more : ((p q : ℕ) → is_among (rests (graph_of files) p) q ≡ true → is_among (users_at files q) p ≡ true) → (flags next : List Bool) (w p : ℕ) (file : Read) → next ≡ slice_set flags w true → slice_get files p ≡ Some file
      → is_ready files next p file ≡ true → (is_ready files flags p file ≡ true) ⊎ (is_among (users_at files w) p ≡ true)
  ready_more users flags next w p file same e ready = by (is_ready files flags p file) refl (is_among (users_at files w) p) refl where
    by : (b : Bool) → is_ready files flags p file ≡ b → (c : Bool) → is_among (users_at files w) p ≡ c → (is_ready files flags p file ≡ true) ⊎ (is_among (users_at files w) p ≡ true)
    by true h c k = inl h
    by false h true k = inr k
    by false h false k =
        let none : is_ready files next p file ≡ false =
        ap (λ (fs : List Bool). is_ready files fs p file) same
        ∙ still_unready (get_or flags p false) (get_or (slice_set flags w true) p false) (list_all (flag_of files flags) (rest_units files (name_at files p))) (list_all (flag_of files (slice_set flags w true)) (rest_units files (name_at files p))) (is_open_unit file)
        (set_stays flags w p) (rests_same files cached project users flags w p (within files p file e) k) h
        in
        absurd (cc (none, ready))

  -- so a ready unit is among those that are awaited, or rests on that one
  pub awaited_more : ((p q : ℕ) → is_among (rests (graph_of files) p) q ≡ true → is_among (users_at files q) p ≡ true) → (flags next : List Bool) (w : ℕ) (early : BTreeSet ℕ) (from : ℕ) → next ≡ slice_set flags w true → AreAwaited files flags early from
      → (p : ℕ) (file : Read) → p < from → slice_get files p ≡ Some file → is_ready files next p file ≡ true → (contains nat_cmp early p ≡ true) ⊎ (is_among (users_at files w) p ≡ true)
  awaited_more users flags next w early from same before p file lt e ready = elim (ready_more users flags next w p file same e ready) [
    | inl h ↦ inl (before p file lt e h)
    | inr k ↦ inr k
  ]

  -- of each index a flag is not missing, or it is that of the unit
  pub full_or : (flags : List Bool) (unit : List ℕ) (at : ℕ) → index unit files ≡ Some at → ((p : ℕ) → p < length files → bytes_eq unit (name_at files p) ≡ false → IsFullAt files cached flags p)
      → (p : ℕ) → p < length files → IsFullAt files cached flags p ⊎ (at ≡ p)
  full_or flags unit at e others p lt = by (bytes_eq unit (name_at files p)) refl where
    by : (b : Bool) → bytes_eq unit (name_at files p) ≡ b → IsFullAt files cached flags p ⊎ (at ≡ p)
    by true h =
        let same : unit ≡ name_at files p = (bytes_eq-Decides unit (name_at files p)).0 h in
        let here : Some at ≡ Some p = sym e ∙ ap (λ (n : List ℕ). index n files) same ∙ placed_there files cached project p lt in
        inr (some_is files cached project at p here)
    by false h = inl (others p lt h)

-- before index 0 none is awaited
pub none_awaited : (files : List Read) (flags : List Bool) (early : BTreeSet ℕ) (from : ℕ) → from ≡ 0 → AreAwaited files flags early from
none_awaited files flags early from zero_is p file lt e ready = absurd (omega (arith, lt, zero_is))

-- one or the other, by a mark
pub by_mark : {P Q : Type 0} (b : Bool) → (b ≡ false → P) → (b ≡ true → Q) → P ⊎ Q
by_mark true f g = inr (g refl)
by_mark false f g = inl (f refl)
