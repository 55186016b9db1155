-- The greatest number of a list, which is gone through up to the first one over 64.
use Rattle.std.proofs.Common.{◌≡◌, ◌<◌, ◌≤◌, ◌+◌, ◌∙◌, ◌↔◌, IsTrue, Bool, true, false, inl, inr, ap, sym, max, ℕ, List, length, map, drop, slice_index_or, arith}
use Rattle.std.proofs.lemmas.Bool.{cases_lt, false≢true}
use Rattle.std.proofs.lemmas.List.{at_drop_all, at_drop_more}
use Rattle.occ_forms_expressions.specs.Depth.{greatest}

-- the next number, and what is left after it
next : {X : Type 0} (f : X → ℕ) (xs : List X) (i : ℕ) (x : X) → i < length xs → x ≡ slice_index_or xs i x → greatest (map f (drop i xs)) ≡ max (f x) (greatest (map f (drop (i + 1) xs)))
next f xs i x less is =
    let h : greatest (map f (drop i xs)) ≡ max (f (slice_index_or xs i x)) (greatest (map f (drop (i + 1) xs))) = at_drop_more (λ ys. greatest (map f ys)) xs i x less in
    let e : f x ≡ f (slice_index_or xs i x) = ap f is in
    omega (arith, h, e)

-- it is over 64
pub large : {X : Type 0} (f : X → ℕ) (xs : List X) (i : ℕ) (x : X) → i < length xs → x ≡ slice_index_or xs i x → max 64 (greatest (map f (drop i xs))) ≡ max 64 (greatest (map f xs)) → 64 < f x → 64 < greatest (map f xs)
large f xs i x less is same over = omega (arith, next f xs i x less is, same, over)

-- it is not
pub small : {X : Type 0} (f : X → ℕ) (xs : List X) (i : ℕ) (x : X) (reported : Bool) → i < length xs → x ≡ slice_index_or xs i x → max 64 (greatest (map f (drop i xs))) ≡ max 64 (greatest (map f xs))
    → IsTrue reported ↔ (64 < f x) → reported ≡ false → max 64 (greatest (map f (drop (i + 1) xs))) ≡ max 64 (greatest (map f xs))
small f xs i x reported less is same reports refused =
    elim (cases_lt 64 (f x)) [
      | inl over ↦ absurd (false≢true (sym refused ∙ reports.1 over))
      | inr few ↦ omega (arith, next f xs i x less is, same, few)
    ]

-- and none is
pub none : {X : Type 0} (f : X → ℕ) (xs : List X) (i : ℕ) → length xs ≤ i → max 64 (greatest (map f (drop i xs))) ≡ max 64 (greatest (map f xs)) → 64 < greatest (map f xs) → ⊥
none f xs i end same over =
    let h : greatest (map f (drop i xs)) ≡ 0 = at_drop_all (λ ys. greatest (map f ys)) xs i end in
    omega (arith, h, same, over)
