-- Indices that rise one after the other, from an index on.
use Rattle.std.proofs.Common.{◌≡◌, ◌∙◌, ◌+◌, ◌<◌, ◌≤◌, ◌⊎◌, ◌==◌, ℕ, zero, suc, Bool, true, false, List, [], ◌∷◌, length, map, get_or, refl, sym, ap, subst, inl, inr, arith}
use Rattle.std.specs.Prelude.{slice_set}
use Rattle.std.proofs.lemmas.Bool.{cases_lt, eqb-false, eqb-true}
use Rattle.std.proofs.lemmas.List.{get_or-map, length-map}
use Rattle.occ_project_graph.specs.Adding.{raised}
use Rattle.occ_project_graph.specs.inside.Numbering.{IsNumbered, IsRaising, index_at}
use Rattle.occ_project_graph.proofs.Added.{raised_above, raised_below}
use Rattle.occ_project_graph.proofs.Led.{all_numbers}

set_long : (xs : List ℕ) (p v : ℕ) → length (slice_set xs p v) ≡ length xs
set_long [] p v = refl
set_long (x ∷ xs) zero v = refl
set_long (x ∷ xs) (suc p) v = ap suc (set_long xs p v)

set_here : (xs : List ℕ) (p v : ℕ) → p < length xs → get_or (slice_set xs p v) p 0 ≡ v
set_here [] p v lt = absurd (omega (arith, lt))
set_here (x ∷ xs) zero v lt = refl
set_here (x ∷ xs) (suc p) v lt = set_here xs p v (omega (arith, lt))

set_apart : (xs : List ℕ) (p q v : ℕ) → (p ≡ q → ⊥) → get_or (slice_set xs p v) q 0 ≡ get_or xs q 0
set_apart [] p q v n = refl
set_apart (x ∷ xs) zero zero v n = absurd (n refl)
set_apart (x ∷ xs) zero (suc q) v n = refl
set_apart (x ∷ xs) (suc p) zero v n = refl
set_apart (x ∷ xs) (suc p) (suc q) v n = set_apart xs p q v (λ e. n (ap suc e))

pub raising_begun : (numbers old : List ℕ) (at : ℕ) → IsRaising numbers old old at at
raising_begun numbers old at = record {
  from = omega arith;
  len = refl;
  risen = λ n lt least less. absurd (omega (arith, least, less));
  same = λ n lt h. refl;
}

module _ (numbers old now : List ℕ) (at place : ℕ) (is : IsNumbered numbers old) (h : IsRaising numbers old now at place) (lt : place < length numbers) where
  abbrev w : ℕ
  w = get_or numbers place 0

  few : w < length numbers
  few = is.number_within place lt

  there : index_at old w ≡ place
  there = is.there place lt

  still : index_at now w ≡ place
  still = h.same w few (inr (let t = there in omega (arith, t))) ∙ there

  pub raising_within : w < length now
  raising_within = let len = h.len in let long = is.len in let f = few in omega (arith, len, long, f)

  pub raising_fits : get_or now w 0 < length numbers
  raising_fits = let s = still in omega (arith, s, lt)

  -- no other stands there
  other : (n : ℕ) → n < length numbers → (w ≡ n → ⊥) → index_at old n ≡ place → ⊥
  other n less apart e = apart (ap (λ (p : ℕ). get_or numbers p 0) (sym e) ∙ is.back n less)

pub raising_more : (numbers old now next : List ℕ) (at place : ℕ) → IsNumbered numbers old → IsRaising numbers old now at place → place < length numbers → next ≡ slice_set now (get_or numbers place 0) (get_or now (get_or numbers place 0) 0 + 1) → IsRaising numbers old next at (place + 1)
raising_more numbers old now next at place is h lt n = subst (λ (xs : List ℕ). IsRaising numbers old xs at (place + 1)) (sym n) (record {
  from = let from = h.from in omega (arith, from);
  len = set_long now v (get_or now v 0 + 1) ∙ h.len;
  risen = λ m less least most. risen_by m less least most (v == m) refl;
  same = λ m less k. same_by m less k (v == m) refl;
}) where
  v : ℕ
  v = get_or numbers place 0

  at_place : index_at old v ≡ place
  at_place = there numbers old now at place is h lt

  risen_by : (m : ℕ) → m < length numbers → at ≤ index_at old m → index_at old m < place + 1 → (b : Bool) → (v == m) ≡ b → get_or (slice_set now v (get_or now v 0 + 1)) m 0 ≡ index_at old m + 1
  risen_by m less least most true e =
      let one : v ≡ m = eqb-true v m e in
      ap (λ (x : ℕ). get_or (slice_set now v (get_or now v 0 + 1)) x 0) (sym one)
      ∙ set_here now v (get_or now v 0 + 1) (raising_within numbers old now at place is h lt)
      ∙ ap (λ (x : ℕ). x + 1) (still numbers old now at place is h lt ∙ sym at_place ∙ ap (index_at old) one)
  risen_by m less least most false e =
      let apart : v ≡ m → ⊥ = eqb-false v m e in
      let below : index_at old m < place = elim (cases_lt (index_at old m) place) [
        | inl k ↦ k
        | inr k ↦ absurd (other numbers old now at place is h lt m less apart (omega (arith, most, k)))
      ] in
      set_apart now v m (get_or now v 0 + 1) apart ∙ h.risen m less least below

  same_by : (m : ℕ) → m < length numbers → (index_at old m < at) ⊎ (place + 1 ≤ index_at old m) → (b : Bool) → (v == m) ≡ b → get_or (slice_set now v (get_or now v 0 + 1)) m 0 ≡ index_at old m
  same_by m less k true e =
      let one : v ≡ m = eqb-true v m e in
      let here : index_at old m ≡ place = ap (index_at old) (sym one) ∙ at_place in
      let from = h.from in
      elim k [
        | inl below ↦ absurd (omega (arith, below, here, from))
        | inr above ↦ absurd (omega (arith, above, here))
      ]
  same_by m less k false e = set_apart now v m (get_or now v 0 + 1) (eqb-false v m e) ∙ h.same m less (elim k [
    | inl below ↦ inl below
    | inr above ↦ inr (omega (arith, above))
  ])

pub raising_next : (numbers old now next : List ℕ) (at place then : ℕ) → then ≡ place + 1 → IsNumbered numbers old → IsRaising numbers old now at place → place < length numbers → next ≡ slice_set now (get_or numbers place 0) (get_or now (get_or numbers place 0) 0 + 1) → IsRaising numbers old next at then
raising_next numbers old now next at place then e is h lt n = subst (IsRaising numbers old next at) (sym e) (raising_more numbers old now next at place is h lt n)

pub raising_over : (numbers old now : List ℕ) (at place : ℕ) → IsNumbered numbers old → IsRaising numbers old now at place → length numbers ≤ place → now ≡ map (raised at) old
raising_over numbers old now at place is h over = all_numbers now (map (raised at) old) (h.len ∙ sym (length-map old (raised at))) (λ n lt.
    let len = h.len in
    let long = is.len in
    let less : n < length numbers = omega (arith, lt, len, long) in
    at_number n less ∙ sym (get_or-map (raised at) old n 0 0 (omega (arith, lt, len)))) where
      at_number : (n : ℕ) → n < length numbers → get_or now n 0 ≡ raised at (get_or old n 0)
      at_number n less = elim (cases_lt (index_at old n) at) [
        | inl below ↦ h.same n less (inl below) ∙ sym (raised_below at (index_at old n) below)
        | inr above ↦ let within = is.index_within n less in h.risen n less above (omega (arith, within, over)) ∙ sym (raised_above at (index_at old n) above)
      ]
