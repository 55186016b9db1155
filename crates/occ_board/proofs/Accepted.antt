-- What an accepted outcome makes of the units that are done.
use Rattle.std.proofs.Common.{◌≡◌, ◌∙◌, ◌<◌, ◌≤◌, Bool, true, false, not, cond, ℕ, suc, List, [], ◌∷◌, length, map, Option, Some, None, refl, sym, ap, arith, if◌then◌else◌}
use Rattle.std.proofs.lemmas.Slice.Eq.{bytes_eq-Decides}
use Rattle.std.specs.List.{filter}
use Rattle.std.specs.Option.{is_some, unwrap_or}
use Rattle.std.specs.Str.{bytes_eq}
use Rattle.occ_base.specs.FileName.{is_unit}
use Rattle.occ_board.proofs.Heights.{along_rests}
use Rattle.occ_board.proofs.Settled.{is_step, step_cached, step_open, step_rests}
use Rattle.occ_board.proofs.Trees.{inputs_are_one}
use Rattle.occ_board.proofs.Truths.{all_by, both_true, either_true, not_both, or_left, or_right}
use Rattle.occ_board.specs.Done.{done, done_step, is_cached, is_that, cached_of, pending_units}
use Rattle.occ_board.specs.Journal.{is_open}
use Rattle.occ_board.specs.Machine.{with_cached}
use Rattle.occ_board.specs.inside.Ready.{is_rested}
use Rattle.occ_check.specs.Input.{Input}
use Rattle.occ_project.specs.Entries.{is_among}
use Rattle.occ_project.specs.Reads.{member}
use Rattle.occ_project.specs.declared.reads.Read.{Read}
use Rattle.occ_check.specs.Checks.{input}
use Rattle.occ_check.specs.Report.{is_open_unit, open_units}
use Rattle.occ_project_units.proofs.Looks.{same_bytes}
use Rattle.occ_project_units.specs.Indices.{rest_units}

-- of its unit it is the one that is cached
pub cached_here : (js : List Input) (i : Input) → cached_of (with_cached js i) i.unit ≡ Some i
cached_here [] i = ap (λ (b : Bool). cond b (Some i) None) (same_bytes i.unit)
cached_here (j ∷ js) i = by (bytes_eq j.unit i.unit) refl (cached_here js i) where
  by : (b : Bool) → bytes_eq j.unit i.unit ≡ b → cached_of (with_cached js i) i.unit ≡ Some i → cached_of (if b then i ∷ js else j ∷ with_cached js i) i.unit ≡ Some i
  by true e rest = ap (λ (b : Bool). cond b (Some i) (cached_of js i.unit)) (same_bytes i.unit)
  by false e rest = ap (λ (b : Bool). cond b (Some j) (cached_of (with_cached js i) i.unit)) e ∙ rest

-- and of others the same as before
pub cached_other : (js : List Input) (i : Input) (u : List ℕ) → bytes_eq i.unit u ≡ false → cached_of (with_cached js i) u ≡ cached_of js u
cached_other [] i u h = ap (λ (b : Bool). cond b (Some i) None) h
cached_other (j ∷ js) i u h = by (bytes_eq j.unit i.unit) refl (cached_other js i u h) where
  by : (b : Bool) → bytes_eq j.unit i.unit ≡ b → cached_of (with_cached js i) u ≡ cached_of js u → cached_of (if b then i ∷ js else j ∷ with_cached js i) u ≡ cached_of (j ∷ js) u
  by true e rest =
      let same : j.unit ≡ i.unit = (bytes_eq-Decides j.unit i.unit).0 e in
      ap (λ (b : Bool). cond b (Some i) (cached_of js u)) h ∙ sym (ap (λ (b : Bool). cond b (Some j) (cached_of js u)) (ap (λ (n : List ℕ). bytes_eq n u) same ∙ h))
  by false e rest = ap (λ (o : Option Input). cond (bytes_eq j.unit u) (Some j) o) rest

itself : (i j : Input) → i ≡ j → is_that (Some i) j ≡ true
itself i j e = (inputs_are_one i j).1 e

-- what passes one test and not another that all others pass too
no_fewer : {X : Type 0} (b c : Bool) (x : X) (xs ys : List X) → (b ≡ true → c ≡ true) → length xs ≤ length ys → length (cond b (x ∷ xs) xs) ≤ length (cond c (x ∷ ys) ys)
no_fewer true true x xs ys f e = let more : suc (length xs) ≤ suc (length ys) = omega (arith, e) in more
no_fewer true false x xs ys f e = let k = f refl in absurd cc
no_fewer false true x xs ys f e = let more : length xs ≤ suc (length ys) = omega (arith, e) in more
no_fewer false false x xs ys f e = e

fewer_by : (p q : List ℕ → Bool) (vs : List (List ℕ)) → ((v : List ℕ) → q v ≡ true → p v ≡ true) → length (filter q vs) ≤ length (filter p vs)
fewer_by p q [] h = omega arith
fewer_by p q (v ∷ vs) h = no_fewer (q v) (p v) v (filter q vs) (filter p vs) (h v) (fewer_by p q vs h)

fewer_on : {X : Type 0} (b c : Bool) (x : X) (xs ys : List X) → (b ≡ true → c ≡ true) → length xs < length ys → length (cond b (x ∷ xs) xs) < length (cond c (x ∷ ys) ys)
fewer_on true true x xs ys f e = let more : suc (length xs) < suc (length ys) = omega (arith, e) in more
fewer_on true false x xs ys f e = let k = f refl in absurd cc
fewer_on false true x xs ys f e = let more : length xs < suc (length ys) = omega (arith, e) in more
fewer_on false false x xs ys f e = e

fewer_at : {X : Type 0} (b c : Bool) (x : X) (xs ys : List X) → b ≡ false → c ≡ true → length xs ≤ length ys → length (cond b (x ∷ xs) xs) < length (cond c (x ∷ ys) ys)
fewer_at true c x xs ys e f k = absurd cc
fewer_at false true x xs ys e f k = let more : length xs < suc (length ys) = omega (arith, k) in more
fewer_at false false x xs ys e f k = absurd cc

fewer_than : (p q : List ℕ → Bool) (vs : List (List ℕ)) (u : List ℕ) → ((v : List ℕ) → q v ≡ true → p v ≡ true) → is_among vs u ≡ true → p u ≡ true → q u ≡ false → length (filter q vs) < length (filter p vs)
fewer_than p q [] u h a k l = absurd cc
fewer_than p q (v ∷ vs) u h a k l = either_true (bytes_eq v u) (is_among vs u) a
    (λ e. let same : v ≡ u = (bytes_eq-Decides v u).0 e in fewer_at (q v) (p v) v (filter q vs) (filter p vs) (ap q same ∙ l) (ap p same ∙ k) (fewer_by p q vs h))
    (λ b. fewer_on (q v) (p v) v (filter q vs) (filter p vs) (h v) (fewer_than p q vs u h b k l))

-- an open unit is among the open units
pub open_among : (files : List Read) (u : List ℕ) → is_unit u ≡ true → is_open files u ≡ true → is_among (open_units files) u ≡ true
open_among [] u h o = absurd cc
open_among (file ∷ files) u h o = by (bytes_eq file.name u) refl (open_among files u h) o where
  more : (c : Bool) → is_among (open_units files) u ≡ true → is_among (map (λ f. f.name) (cond c (file ∷ filter is_open_unit files) (filter is_open_unit files))) u ≡ true
  more true a = or_right (bytes_eq file.name u) (is_among (open_units files) u) a
  more false a = a

  by : (b : Bool) → bytes_eq file.name u ≡ b → (is_open files u ≡ true → is_among (open_units files) u ≡ true) → is_some (unwrap_or (cond b (Some file) (member files u)) (record { name = u; revision = 0; source = None })).source ≡ true
      → is_among (open_units (file ∷ files)) u ≡ true
  by true e rest k =
      let same : file.name ≡ u = (bytes_eq-Decides file.name u).0 e in
      let is : is_open_unit file ≡ true = both_true (is_unit file.name) (is_some file.source) (ap is_unit same ∙ h) k in
      ap (λ (c : Bool). is_among (map (λ f. f.name) (cond c (file ∷ filter is_open_unit files) (filter is_open_unit files))) u) is ∙ or_left (bytes_eq file.name u) (is_among (open_units files) u) e
  by false e rest k = more (is_open_unit file) (rest k)

module _ (files : List Read) (law : (cached : List Input) (u : List ℕ) → done files cached u ≡ done_step files cached u (done files cached)) (h : List ℕ → ℕ) (fall : (u v : List ℕ) → is_among (rest_units files u) v ≡ true → h v < h u) where
  -- where more is cached, no less is done
  done_more : (cached better : List Input) → ((u : List ℕ) → is_cached cached (input files u) ≡ true → is_cached better (input files u) ≡ true) → (u : List ℕ) → done files cached u ≡ true → done files better u ≡ true
  done_more cached better good = along_rests files h fall (λ u. done files cached u ≡ true → done files better u ≡ true) (λ u rests d.
      let step : done_step files cached u (done files cached) ≡ true = sym (law cached u) ∙ d in
      law better u
      ∙ is_step files better u (done files better) (step_open files cached u (done files cached) step) (good u (step_cached files cached u (done files cached) step)) (all_by (done files cached) (done files better) (rest_units files u) rests (step_rests files cached u (done files cached) step)))

  module _ (cached : List Input) (i : Input) (now : i ≡ input files i.unit) where
    better : (u : List ℕ) → is_cached cached (input files u) ≡ true → is_cached (with_cached cached i) (input files u) ≡ true
    better u k = by (bytes_eq i.unit u) refl where
      by : (b : Bool) → bytes_eq i.unit u ≡ b → is_cached (with_cached cached i) (input files u) ≡ true
      by true e =
          let same : i.unit ≡ u = (bytes_eq-Decides i.unit u).0 e in
          ap (λ (n : List ℕ). is_that (cached_of (with_cached cached i) n) (input files u)) (sym same)
          ∙ ap (λ (o : Option Input). is_that o (input files u)) (cached_here cached i)
          ∙ itself i (input files u) (now ∙ ap (input files) same)
      by false e = ap (λ (o : Option Input). is_that o (input files u)) (cached_other cached i u e) ∙ k

    pub more_done : (u : List ℕ) → done files cached u ≡ true → done files (with_cached cached i) u ≡ true
    more_done = done_more cached (with_cached cached i) better

    pub now_done : is_open files i.unit ≡ true → is_rested files cached i.unit ≡ true → done files (with_cached cached i) i.unit ≡ true
    now_done opened rested =
        law (with_cached cached i) i.unit
        ∙ is_step files (with_cached cached i) i.unit (done files (with_cached cached i)) opened
        (ap (λ (o : Option Input). is_that o (input files i.unit)) (cached_here cached i) ∙ itself i (input files i.unit) now)
        (all_by (done files cached) (done files (with_cached cached i)) (rest_units files i.unit) (λ v a. more_done v) rested)

    was_pending : is_cached cached i ≡ false → done files cached i.unit ≡ true → ⊥
    was_pending none d =
        let was : is_cached cached (input files i.unit) ≡ true = step_cached files cached i.unit (done files cached) (sym (law cached i.unit) ∙ d) in
        not_both (is_cached cached i) (ap (is_cached cached) now ∙ was) none

    pub fewer_pending : is_unit i.unit ≡ true → is_open files i.unit ≡ true → is_rested files cached i.unit ≡ true → is_cached cached i ≡ false → length (pending_units files (with_cached cached i)) < length (pending_units files cached)
    fewer_pending unit opened rested none =
        fewer_than (λ u. not (done files cached u)) (λ u. not (done files (with_cached cached i) u)) (open_units files) i.unit (λ v n. still v (done files cached v) refl n) (open_among files i.unit unit opened)
        (pending (done files cached i.unit) (was_pending none)) (ap not (now_done opened rested))
      where
        pending : (b : Bool) → (b ≡ true → ⊥) → not b ≡ true
        pending true f = absurd (f refl)
        pending false f = refl

        still : (v : List ℕ) (b : Bool) → done files cached v ≡ b → not (done files (with_cached cached i) v) ≡ true → not (done files cached v) ≡ true
        still v true e n = let k : not (done files (with_cached cached i) v) ≡ false = ap not (more_done v e) in absurd (not_both (not (done files (with_cached cached i) v)) n k)
        still v false e n = ap not e
