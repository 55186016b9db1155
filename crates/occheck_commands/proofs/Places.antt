-- The first place of a byte, as a search tells it, is the position of that byte.
use Rattle.std.proofs.Common.{◌≡◌, ◌≤◌, ◌<◌, ◌+◌, ℕ, List, [], ◌∷◌, length, drop, Bool, true, false, not, cond, nat_lt, Option, Some, None, refl, arith, ap, suc}
use Rattle.std.specs.List.{position, position_or_len}
use Rattle.std.specs.Prelude.{◌==◌, slice_index}
use Rattle.std.proofs.lemmas.Bool.{ltb-true, ltb-false}
use Rattle.std.proofs.lemmas.List.Sums.{prefix_len_passes, prefix_len_stops}
use Rattle.occheck_commands.specs.Lines.{feeds}
use Rattle.memchr.specs.Find.{IsFirstByte, Nowhere, Passes}

was_true : (x : Bool) → not x ≡ false → x ≡ true
was_true true e = refl
was_true false e = absurd cc

both_ways : {X : Type 0} (x : Bool) → x ≡ true → not x ≡ true → X
both_ways true e f = absurd cc
both_ways false e f = absurd cc

module _ (t : ℕ → Bool) (hay : List ℕ) where
  abbrev n : ℕ
  n = position_or_len t hay

  -- what stands at the position passes, if it is no end
  passes_there : n < length hay → t (slice_index hay n) ≡ true
  passes_there low = was_true (t (slice_index hay n)) (prefix_len_stops (λ x. not (t x)) hay 0 low)

  nowhere : (is : Bool) → nat_lt n (length hay) ≡ is → Nowhere (Passes t hay) 0 (length hay) → None ≡ cond is (Some n) None
  nowhere true e none = let low : n < length hay = ltb-true n (length hay) e in absurd (none n (omega arith) low (passes_there low))
  nowhere false e none = refl

  not_after : (k : ℕ) (is : Bool) → nat_lt k n ≡ is → t (slice_index hay k) ≡ true → n ≤ k
  not_after k true e here = both_ways (t (slice_index hay k)) here (prefix_len_passes (λ x. not (t x)) hay k 0 (ltb-true k n e))
  not_after k false e here = ltb-false k n e

  not_before : (k : ℕ) (is : Bool) → nat_lt n k ≡ is → k < length hay → Nowhere (Passes t hay) 0 k → k ≤ n
  not_before k true e low none = let m : n < k = ltb-true n k e in absurd (none n (omega arith) m (passes_there (omega arith)))
  not_before k false e low none = ltb-false n k e

  at : (k : ℕ) (is : Bool) → nat_lt n (length hay) ≡ is → n ≡ k → k < length hay → Some k ≡ cond is (Some n) None
  at k true e same low = cc
  at k false e same low = let l : length hay ≤ n = ltb-false n (length hay) e in absurd (omega arith)

  pub first_is_position : (r : Option ℕ) → IsFirstByte t hay r → r ≡ position t hay
  first_is_position None h = nowhere (nat_lt n (length hay)) refl h
  first_is_position (Some k) h =
      let a : n ≤ k = not_after k (nat_lt k n) refl h.1 in
      let b : k ≤ n = not_before k (nat_lt n k) refl h.0.high h.0.before in
      at k (nat_lt n (length hay)) refl (omega arith) h.0.high

-- the ends of lines in bytes: that of the first, and those behind it

abbrev is_feed : ℕ → Bool
is_feed b = b == 10

past_by : (b : ℕ) (bs : List ℕ) (is : Bool) → (b == 10) ≡ is → (position_or_len is_feed bs < length bs → feeds bs ≡ 1 + feeds (drop (position_or_len is_feed bs + 1) bs))
    → position_or_len is_feed (b ∷ bs) < length (b ∷ bs) → feeds (b ∷ bs) ≡ 1 + feeds (drop (position_or_len is_feed (b ∷ bs) + 1) (b ∷ bs))
past_by b bs true e rest low = rw e refl
past_by b bs false e rest low =
    let n : ℕ = position_or_len is_feed bs in
    let l : 1 + n < suc (length bs) = rw e at low in
    let r : feeds bs ≡ 1 + feeds (drop (n + 1) bs) = rest (omega arith) in
    let k : 1 + n + 1 ≡ suc (n + 1) = omega arith in
    let d : feeds (drop (1 + n + 1) (b ∷ bs)) ≡ feeds (drop (n + 1) bs) = ap (λ (m : ℕ). feeds (drop m (b ∷ bs))) k in
    rw e (omega arith)

pub feeds_past : (bytes : List ℕ) → position_or_len is_feed bytes < length bytes → feeds bytes ≡ 1 + feeds (drop (position_or_len is_feed bytes + 1) bytes)
feeds_past [] low = absurd (omega arith)
feeds_past (b ∷ bs) low = past_by b bs (b == 10) refl (feeds_past bs) low

none_by : (b : ℕ) (bs : List ℕ) (is : Bool) → (b == 10) ≡ is → (length bs ≤ position_or_len is_feed bs → feeds bs ≡ 0) → length (b ∷ bs) ≤ position_or_len is_feed (b ∷ bs) → feeds (b ∷ bs) ≡ 0
none_by b bs true e rest most = let m : suc (length bs) ≤ 0 = rw e at most in absurd (omega arith)
none_by b bs false e rest most =
    let m : suc (length bs) ≤ 1 + position_or_len is_feed bs = rw e at most in
    let r : feeds bs ≡ 0 = rest (omega arith) in
    rw e (omega arith)

pub feeds_none : (bytes : List ℕ) → length bytes ≤ position_or_len is_feed bytes → feeds bytes ≡ 0
feeds_none [] most = refl
feeds_none (b ∷ bs) most = none_by b bs (b == 10) refl (feeds_none bs) most

at_by : (bytes : List ℕ) (place : ℕ) (is : Bool) → nat_lt (position_or_len is_feed bytes) (length bytes) ≡ is → Some place ≡ cond is (Some (position_or_len is_feed bytes)) None
    → feeds bytes ≡ 1 + feeds (drop (place + 1) bytes)
at_by bytes place true e at =
    let same : place ≡ position_or_len is_feed bytes = cc in
    rw same (feeds_past bytes (ltb-true (position_or_len is_feed bytes) (length bytes) e))
at_by bytes place false e at = absurd cc

pub feeds_at : (bytes : List ℕ) (place : ℕ) → Some place ≡ position is_feed bytes → feeds bytes ≡ 1 + feeds (drop (place + 1) bytes)
feeds_at bytes place at = at_by bytes place (nat_lt (position_or_len is_feed bytes) (length bytes)) refl at

no_by : (bytes : List ℕ) (is : Bool) → nat_lt (position_or_len is_feed bytes) (length bytes) ≡ is → None ≡ cond is (Some (position_or_len is_feed bytes)) None → feeds bytes ≡ 0
no_by bytes true e at = absurd cc
no_by bytes false e at = feeds_none bytes (ltb-false (position_or_len is_feed bytes) (length bytes) e)

pub no_feed : (bytes : List ℕ) → None ≡ position is_feed bytes → feeds bytes ≡ 0
no_feed bytes at = no_by bytes (nat_lt (position_or_len is_feed bytes) (length bytes)) refl at
