-- What rises from each to the next stands among its own but once.
use Rattle.std.proofs.Common.{◌≡◌, ◌∙◌, ◌+◌, ◌<◌, ◌||◌, ◌==◌, ℕ, zero, suc, Bool, true, false, cond, List, [], ◌∷◌, length, get_or, refl, ap, subst, arith}
use Rattle.std.specs.List.{filter}
use Rattle.std.proofs.lemmas.Bool.{eq-eqb, eqb-true}
use Rattle.occ_project_graph.specs.Graph.{is_among}
use Rattle.occ_project_graph.specs.inside.Numbering.{times_in}
use Rattle.occ_project_graph.proofs.Added.{none_by}
use Rattle.occ_project_graph.proofs.Ways.{first_holds, second_holds}

-- of so many in front each is below the next, by what they are numbered with
abbrev pub DoRise : (ℕ → ℕ) → List ℕ → ℕ → Type 0
DoRise f ns count = (k : ℕ) → k + 1 < count → f (get_or ns k 0) < f (get_or ns (k + 1) 0)

rest_rise : (f : ℕ → ℕ) (n : ℕ) (ns : List ℕ) → DoRise f (n ∷ ns) (length (n ∷ ns)) → DoRise f ns (length ns)
rest_rise f n ns rise k lt =
    let e : suc k + 1 ≡ suc (k + 1) = omega arith in
    subst (λ (j : ℕ). f (get_or ns k 0) < f (get_or (n ∷ ns) j 0)) e (rise (suc k) (omega (arith, lt)))

-- the first is below all that follow
first_below : (f : ℕ → ℕ) (n : ℕ) (ns : List ℕ) (m : ℕ) → DoRise f (n ∷ ns) (length (n ∷ ns)) → is_among ns m ≡ true → f n < f m
first_below f n [] m rise h = absurd cc
first_below f n (x ∷ ns) m rise h = by (x == m) refl h (λ k. first_below f x ns m (rest_rise f n (x ∷ ns) rise) k) where
  here : f n < f x
  here = rise 0 (omega arith)

  by : (b : Bool) → (x == m) ≡ b → (b || is_among ns m) ≡ true → (is_among ns m ≡ true → f x < f m) → f n < f m
  by true e k rest = subst (λ (z : ℕ). f n < f z) (eqb-true x m e) here
  by false e k rest = let there = rest k in omega (arith, here, there)

none_among : (ns : List ℕ) (m : ℕ) → is_among ns m ≡ false → times_in ns m ≡ 0
none_among [] m h = refl
none_among (n ∷ ns) m h = by (n == m) h (λ k. none_among ns m k) where
  by : (b : Bool) → (b || is_among ns m) ≡ false → (is_among ns m ≡ false → times_in ns m ≡ 0) → length (cond b (n ∷ filter (λ other. other == m) ns) (filter (λ other. other == m) ns)) ≡ 0
  by true k rest = absurd cc
  by false k rest = rest k

place_among : (ns : List ℕ) (i : ℕ) → i < length ns → is_among ns (get_or ns i 0) ≡ true
place_among [] i lt = absurd (omega (arith, lt))
place_among (n ∷ ns) zero lt = first_holds (n == n) (is_among ns n) (eq-eqb n n refl)
place_among (n ∷ ns) (suc i) lt = second_holds (n == get_or ns i 0) (is_among ns (get_or ns i 0)) (place_among ns i (omega (arith, lt)))

pub times_once : (f : ℕ → ℕ) (ns : List ℕ) → DoRise f ns (length ns) → (i : ℕ) → i < length ns → times_in ns (get_or ns i 0) ≡ 1
times_once f [] rise i lt = absurd (omega (arith, lt))
times_once f (n ∷ ns) rise zero lt =
    let none : is_among ns n ≡ false = none_by (is_among ns n) (λ h. let below = first_below f n ns n rise h in omega (arith, below)) in
    ap (λ (b : Bool). length (cond b (n ∷ filter (λ other. other == n) ns) (filter (λ other. other == n) ns))) (eq-eqb n n refl) ∙ ap suc (none_among ns n none)
times_once f (n ∷ ns) rise (suc i) lt = by (n == get_or ns i 0) refl (times_once f ns (rest_rise f n ns rise) i (omega (arith, lt))) where
  m : ℕ
  m = get_or ns i 0

  by : (b : Bool) → (n == m) ≡ b → times_in ns m ≡ 1 → length (cond b (n ∷ filter (λ other. other == m) ns) (filter (λ other. other == m) ns)) ≡ 1
  by true e rest =
      let below : f n < f m = first_below f n ns m rise (place_among ns i (omega (arith, lt))) in
      let same : f n ≡ f m = ap f (eqb-true n m e) in
      absurd (omega (arith, below, same))
  by false e rest = rest
