-- Uses, each once, from the last to the first.
use Rattle.std.proofs.Common.{◌≡◌, ◌<◌, arith, ℕ, zero, suc, Bool, true, false, ap, refl, ◌∙◌, sym, List, [], ◌∷◌, ◌++◌, Some, length, slice_get, inl, inr}
use Rattle.std.specs.Prelude.{◌⊎◌, if◌then◌else◌, nat_lt}
use Rattle.std.proofs.lemmas.List.{append-nil}
use Rattle.occ_usage_values.specs.declared.uses.Use.{Use}
use Rattle.occ_project.specs.declared.expanded.Location.{Location}
use Rattle.occ_usage_conflicts.specs.Bodies.{from_outside, outside}
use Rattle.occ_usage_conflicts.specs.Distinct.{added, distinct}

-- those and these, each once
abbrev pub distinct_onto : List Use → List Use → List Use
distinct_onto found [] = found
distinct_onto found (u ∷ us) = added u (distinct_onto found us)

pub onto_none : (us : List Use) → distinct_onto [] us ≡ distinct us
onto_none [] = refl
onto_none (u ∷ us) = ap (added u) (onto_none us)

pub onto_last : (us : List Use) (u : Use) (found : List Use) → distinct_onto found (us ++ u ∷ []) ≡ distinct_onto (added u found) us
onto_last [] u found = refl
onto_last (x ∷ us) u found = ap (added x) (onto_last us u found)

-- ---- places in a list

pub get_push : {X : Type 0} (xs : List X) (y x : X) (j : ℕ) → slice_get (xs ++ y ∷ []) j ≡ Some x → (slice_get xs j ≡ Some x) ⊎ ((j ≡ length xs) × (x ≡ y))
get_push [] y x zero h = inr (refl, cc)
get_push [] y x (suc j) h = cc
get_push (z ∷ xs) y x zero h = inl h
get_push (z ∷ xs) y x (suc j) h = elim (get_push xs y x j h) [
  | inl e ↦ inl e
  | inr m ↦ inr (ap suc (m.0), m.1)
]

pub got_within : {X : Type 0} (xs : List X) (k : ℕ) (x : X) → slice_get xs k ≡ Some x → k < length xs
got_within [] k x h = cc
got_within (y ∷ ys) zero x h = omega arith
got_within (y ∷ ys) (suc k) x h = let w : k < length ys = got_within ys k x h in omega (arith, w)

-- ---- uses of a body, from the last to the first

outside_last : (n m : ℕ) (line : Location) (us : List Use) (u : Use) → outside n m line (us ++ u ∷ []) ≡ outside n m line us ++ (if nat_lt u.part.root m then from_outside n line u ∷ [] else [])
outside_last n m line [] u = by_test (nat_lt u.part.root m) where
  by_test : (t : Bool) → (if t then from_outside n line u ∷ [] else []) ≡ [] ++ (if t then from_outside n line u ∷ [] else [])
  by_test true = refl
  by_test false = refl
outside_last n m line (x ∷ us) u = by_test (nat_lt x.part.root m) (outside_last n m line us u) where
  by_test : (t : Bool) → outside n m line (us ++ u ∷ []) ≡ outside n m line us ++ (if nat_lt u.part.root m then from_outside n line u ∷ [] else [])
      → (if t then from_outside n line x ∷ outside n m line (us ++ u ∷ []) else outside n m line (us ++ u ∷ []))
      ≡ (if t then from_outside n line x ∷ outside n m line us else outside n m line us) ++ (if nat_lt u.part.root m then from_outside n line u ∷ [] else [])
  by_test true e = ap (λ (xs : List Use). from_outside n line x ∷ xs) e
  by_test false e = e

pub outside_step : (n m : ℕ) (line : Location) (us : List Use) (u : Use) (found more : List Use)
    → more ≡ (if nat_lt u.part.root m then added (from_outside n line u) found else found)
    → distinct_onto more (outside n m line us) ≡ distinct_onto found (outside n m line (us ++ u ∷ []))
outside_step n m line us u found more e =
    ap (λ (xs : List Use). distinct_onto xs (outside n m line us)) e ∙ by_test (nat_lt u.part.root m) ∙ ap (distinct_onto found) (sym (outside_last n m line us u)) where
      by_test : (t : Bool) → distinct_onto (if t then added (from_outside n line u) found else found) (outside n m line us)
          ≡ distinct_onto found (outside n m line us ++ (if t then from_outside n line u ∷ [] else []))
      by_test true = sym (onto_last (outside n m line us) (from_outside n line u) found)
      by_test false = ap (distinct_onto found) (sym (append-nil (outside n m line us)))
