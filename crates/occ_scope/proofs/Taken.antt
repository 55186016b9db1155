-- What is remembered of formals stays true.
use Rattle.std.proofs.Common.{◌≡◌, ◌⊎◌, ◌≤◌, ◌<◌, ◌+◌, ◌-◌, ℕ, zero, suc, List, [], ◌∷◌, ◌++◌, length, Option, Some, None, slice_get, arith, ap, sym, ◌∙◌, refl, inl, inr, subst, length-append}
use Rattle.std.specs.Prelude.{take}
use Rattle.occ_scope.specs.Elements.{formal_at, formal_of, type_at, type_of}
use Rattle.occ_scope.specs.declared.meaning.Meaning.{Meaning}
use Rattle.occ_scope.specs.declared.taking.Taken.{Taken}
use Rattle.occ_scope.specs.inside.Taking.{AreNoted, IsNoted}

-- ---- lists by places

front : {X : Type 0} (xs : List X) (x : X) (n : ℕ) → n < length xs → slice_get (xs ++ x ∷ []) n ≡ slice_get xs n
front [] x n h = absurd (omega (arith, h))
front (y ∷ ys) x zero h = refl
front (y ∷ ys) x (suc n) h = front ys x n (omega (arith, h))

taken_front : {X : Type 0} (k : ℕ) (xs : List X) (n : ℕ) → n < length (take k xs) → slice_get (take k xs) n ≡ slice_get xs n
taken_front zero xs n h = absurd (omega (arith, h))
taken_front (suc k) [] n h = refl
taken_front (suc k) (x ∷ xs) zero h = refl
taken_front (suc k) (x ∷ xs) (suc n) h = taken_front k xs n (omega (arith, h))

last_or : {X : Type 0} (xs : List X) (y : X) (n : ℕ) (other : X) → slice_get (xs ++ y ∷ []) n ≡ Some other → (other ≡ y) ⊎ (slice_get xs n ≡ Some other)
last_or {X} [] y zero other is = inl (sym (one y other is)) where
  one : (a b : X) → Some a ≡ Some b → a ≡ b
  one a b s = cc
last_or [] y (suc n) other is = absurd cc
last_or (x ∷ xs) y zero other is = inr is
last_or (x ∷ xs) y (suc n) other is = last_or xs y n other is

-- ---- what is remembered

pub none_noted : (meanings : List Meaning) (bound : ℕ) → AreNoted meanings bound []
none_noted meanings bound zero one is = absurd cc
none_noted meanings bound (suc n) one is = absurd cc

-- where the specifications before the place are the same
moved : (old new : List Meaning) (bound : ℕ) (one : Taken) → ((n : ℕ) → n < bound → slice_get new n ≡ slice_get old n) → IsNoted old bound one → IsNoted new bound one
moved old new bound one same is =
    (is.0, is.1, ap (λ (m : Option Meaning). formal_of m one.formal) (same one.procedure is.0) ∙ is.2 ∙ sym (ap type_of (same one.actual is.1)))

-- the same meanings
pub as_before : (meanings new : List Meaning) (bound : ℕ) (taken : List Taken) → new ≡ meanings → bound ≤ length meanings → AreNoted meanings bound taken → (bound ≤ length new) × AreNoted new bound taken
as_before meanings new bound taken is within noted = subst (λ (ms : List Meaning). (bound ≤ length ms) × AreNoted ms bound taken) (sym is) (within, noted)

-- with one specification more
pub with_one : (meanings new : List Meaning) (more : Meaning) (bound : ℕ) (taken : List Taken) → new ≡ meanings ++ more ∷ [] → bound ≤ length meanings → AreNoted meanings bound taken
    → (bound ≤ length new) × AreNoted new bound taken
with_one meanings new more bound taken is within noted =
    let e : length (meanings ++ more ∷ []) ≡ length meanings + 1 = length-append meanings (more ∷ []) in
    let f : length new ≡ length (meanings ++ more ∷ []) = ap length is in (
      omega (arith, e, f, within),
      λ n one at. subst (λ (ms : List Meaning). IsNoted ms bound one) (sym is)
          (moved meanings (meanings ++ more ∷ []) bound one (λ k h. front meanings more k (omega (arith, h, within))) (noted n one at)),
    )

-- without those behind a place
pub without_last : (meanings new : List Meaning) (k bound : ℕ) (taken : List Taken) → new ≡ take k meanings → bound ≤ length new → AreNoted meanings bound taken → AreNoted new bound taken
without_last meanings new k bound taken is within noted n one at =
    let reached : bound ≤ length (take k meanings) = subst (λ (ms : List Meaning). bound ≤ length ms) is within in
    subst (λ (ms : List Meaning). IsNoted ms bound one) (sym is)
    (moved meanings (take k meanings) bound one (λ i h. taken_front k meanings i (omega (arith, h, reached))) (noted n one at))

later_bound : (meanings : List Meaning) (bound after : ℕ) (one : Taken) → bound ≤ after → IsNoted meanings bound one → IsNoted meanings after one
later_bound meanings bound after one no_earlier is = (omega (arith, is.0, no_earlier), omega (arith, is.1, no_earlier), is.2)

-- up to the place behind another
after_within : (meanings : List Meaning) (bound place after : ℕ) → place < length meanings → bound ≤ length meanings → ((b : ℕ) → bound < b → place + 1 < b → after < b) → after ≤ length meanings
after_within meanings bound place after here within most =
    let h : after < length meanings + 1 = most (length meanings + 1) (omega (arith, within)) (omega (arith, here)) in omega (arith, h)

-- memory is refused
pub none_more : (meanings : List Meaning) (bound place after : ℕ) (taken new : List Taken)
    → place < length meanings → bound ≤ length meanings → (bound ≤ after) × (place + 1 ≤ after) → ((b : ℕ) → bound < b → place + 1 < b → after < b) → AreNoted meanings bound taken → new ≡ taken
    → (after ≤ length meanings) × AreNoted meanings after new
none_more meanings bound place after taken new here within least most noted is =
    (after_within meanings bound place after here within most, λ n one at. later_bound meanings bound after one least.0 (noted n one (ap (λ (ts : List Taken). slice_get ts n) (sym is) ∙ at)))

-- with one more
pub one_more : (meanings : List Meaning) (bound place after : ℕ) (taken new : List Taken) (more : Taken)
    → place < length meanings → bound ≤ length meanings → (bound ≤ after) × (place + 1 ≤ after) → ((b : ℕ) → bound < b → place + 1 < b → after < b) → AreNoted meanings bound taken → new ≡ taken ++ more ∷ []
    → (more.procedure ≤ place) × (more.actual ≤ place) → formal_at meanings more.procedure more.formal ≡ type_at meanings more.actual
    → (after ≤ length meanings) × AreNoted meanings after new
one_more meanings bound place after taken new more here within least most noted is before same = (
  after_within meanings bound place after here within most,
  λ n one at. elim (last_or taken more n one (ap (λ (ts : List Taken). slice_get ts n) (sym is) ∙ at)) [
    | inl e ↦ subst (IsNoted meanings after) (sym e) (omega (arith, before.0, least.1), omega (arith, before.1, least.1), same)
    | inr e ↦ later_bound meanings bound after one least.0 (noted n one e)
  ],
)
