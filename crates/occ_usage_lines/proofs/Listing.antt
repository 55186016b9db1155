-- Numbers that are noted in lists, as specifications come into scope and leave it.
use Rattle.std.specs.Prelude.{◌==◌, ◌-◌, nat_le, slice_get, slice_set}
use Rattle.std.proofs.Common.{arith, ◌≡◌, ◌∙◌, ◌<◌, ◌≤◌, ◌⊎◌, inl, inr, ℕ, zero, suc, Bool, true, false, ◌||◌, Option, Some, None, List, [], ◌∷◌, ◌++◌, length, refl, ap, sym, subst, Result, Ok, Err, OnOk, OnErr, MatchOption}
use Rattle.occ_usage_values.specs.declared.bound.Bound.{Bound}
use Rattle.occ_usage_lines.specs.inside.Noting.{AreKept, AreNoted, Lists, ends_from, is_in, is_noted}

-- ---- one list

pub either_cases : (a b : Bool) → (a || b) ≡ true → (a ≡ true) ⊎ (b ≡ true)
either_cases true b e = inl refl
either_cases false b e = inr e

first_of : (a b : Bool) → a ≡ true → (a || b) ≡ true
first_of true b e = refl
first_of false b e = absurd (grind (arith, e))

second_of : (a b : Bool) → b ≡ true → (a || b) ≡ true
second_of true b e = refl
second_of false b e = e

itself : (n : ℕ) → (n == n) ≡ true
itself n = grind arith

-- what is in a list is in it with one more
in_more : (ns : List ℕ) (k n : ℕ) → is_in ns n ≡ true → is_in (ns ++ k ∷ []) n ≡ true
in_more [] k n e = absurd (grind (arith, e))
in_more (m ∷ ns) k n e = elim (either_cases (m == n) (is_in ns n) e) [
  | inl here ↦ first_of (m == n) (is_in (ns ++ k ∷ []) n) here
  | inr following ↦ second_of (m == n) (is_in (ns ++ k ∷ []) n) (in_more ns k n following)
]

last_in : (ns : List ℕ) (k : ℕ) → is_in (ns ++ k ∷ []) k ≡ true
last_in [] k = first_of (k == k) false (itself k)
last_in (m ∷ ns) k = second_of (m == k) (is_in (ns ++ k ∷ []) k) (last_in ns k)

-- or it is the one more
in_front : (ns : List ℕ) (k n : ℕ) → is_in (ns ++ k ∷ []) n ≡ true → n < k → is_in ns n ≡ true
in_front [] k n e l = elim (either_cases (k == n) false e) [
  | inl here ↦ absurd (grind (arith, here, l))
  | inr following ↦ absurd (grind (arith, following))
]
in_front (m ∷ ns) k n e l = elim (either_cases (m == n) (is_in (ns ++ k ∷ []) n) e) [
  | inl here ↦ first_of (m == n) (is_in ns n) here
  | inr following ↦ second_of (m == n) (is_in ns n) (in_front ns k n following l)
]

last_at : (ns : List ℕ) (k : ℕ) → slice_get (ns ++ k ∷ []) (length ns) ≡ Some k
last_at [] k = refl
last_at (m ∷ ns) k = last_at ns k

length_more : {X : Type 0} (xs : List X) (x : X) → length (xs ++ x ∷ []) ≡ suc (length xs)
length_more [] x = refl
length_more (y ∷ xs) x = ap suc (length_more xs x)

one_less : {X : Type 0} (xs : List X) (x : X) → length (xs ++ x ∷ []) - 1 ≡ length xs
one_less xs x = let e : length (xs ++ x ∷ []) ≡ suc (length xs) = length_more xs x in omega (arith, e)

le_of : (a b : ℕ) → nat_le a b ≡ true → a ≤ b
le_of a b e = grind (arith, e)

-- a last one that is not below the depth goes, and no one below it
last_struck : (ns : List ℕ) (k depth n : ℕ) → ends_from (ns ++ k ∷ []) depth ≡ true → n < depth → is_in (ns ++ k ∷ []) n ≡ true → is_in ns n ≡ true
last_struck ns k depth n from below e =
    let at : slice_get (ns ++ k ∷ []) (length (ns ++ k ∷ []) - 1) ≡ Some k
    = ap (λ (i : ℕ). slice_get (ns ++ k ∷ []) i) (one_less ns k) ∙ last_at ns k in
    let not_below : nat_le depth k ≡ true = grind (arith, at, from) in
    let least : depth ≤ k = le_of depth k not_below in
    in_front ns k n e (omega (arith, least, below))

-- ---- lists of lists

some_same : {X : Type 0} (x y : X) → Some x ≡ Some y → x ≡ y
some_same x y e = grind (arith, e)

-- one list is put in place of another
pub set_kept : (P : ℕ → Type 0) (lists : Lists) (i : ℕ) (old new : List ℕ) → slice_get lists i ≡ Some old → ((n : ℕ) → P n → is_in old n ≡ true → is_in new n ≡ true)
    → (list n : ℕ) → P n → is_noted lists list n ≡ true → is_noted (slice_set lists i new) list n ≡ true
set_kept P [] i old new at h list n p e = absurd (grind (arith, at))
set_kept P (ns ∷ lists) zero old new at h zero n p e = h n p (subst (λ (ks : List ℕ). is_in ks n ≡ true) (some_same ns old at) e)
set_kept P (ns ∷ lists) zero old new at h (suc list) n p e = e
set_kept P (ns ∷ lists) (suc i) old new at h zero n p e = e
set_kept P (ns ∷ lists) (suc i) old new at h (suc list) n p e = set_kept P lists i old new at h list n p e

set_noted : (lists : Lists) (i : ℕ) (old new : List ℕ) (n : ℕ) → slice_get lists i ≡ Some old → is_in new n ≡ true → is_noted (slice_set lists i new) i n ≡ true
set_noted [] i old new n at e = absurd (grind (arith, at))
set_noted (ns ∷ lists) zero old new n at e = e
set_noted (ns ∷ lists) (suc i) old new n at e = set_noted lists i old new n at e

-- ---- specifications

last_or : {X : Type 0} (xs : List X) (x y : X) (n : ℕ) → slice_get (xs ++ x ∷ []) n ≡ Some y → (slice_get xs n ≡ Some y) ⊎ ((n ≡ length xs) × (x ≡ y))
last_or [] x y zero e = inr (refl, some_same x y e)
last_or [] x y (suc n) e = absurd (grind (arith, e))
last_or (z ∷ xs) x y zero e = inl e
last_or (z ∷ xs) x y (suc n) e = elim (last_or xs x y n e) [
  | inl h ↦ inl h
  | inr h ↦ inr (ap suc h.0, h.1)
]

entered : (is_so : ℕ → Bound → Bool) (xs : List Bound) (x : Bound) (old new : Lists) → AreNoted is_so xs old → AreKept old new
    → ((list : ℕ) → is_so list x ≡ true → is_noted new list (length xs) ≡ true) → AreNoted is_so (xs ++ x ∷ []) new
entered is_so xs x old new h kept there n list y at e = elim (last_or xs x y n at) [
  | inl before ↦ kept list n (h n list y before e)
  | inr same ↦ subst (λ (k : ℕ). is_noted new list k ≡ true) (sym same.0) (there list (subst (λ (z : Bound). is_so list z ≡ true) (sym same.1) e))
]

refused : (is_so : ℕ → Bound → Bool) (xs : List Bound) (old new : Lists) → AreNoted is_so xs old → AreKept old new → AreNoted is_so xs new
refused is_so xs old new h kept n list y at e = kept list n (h n list y at e)

-- ---- of calls

on_ok : {T E : Type 0} (r : Result T E) {P Q : Type 0} → (P → Q) → OnOk r P → OnOk r Q
on_ok (Ok x) f h = f h
on_ok (Err e) f h = tt

-- a number is put after others
pub pushed_kept : {T E : Type 0} (r : Result T E) (old new : List ℕ) (k : ℕ) → OnOk r (new ≡ old ++ k ∷ []) → OnErr r (new ≡ old) → (n : ℕ) → Unit {0}
    → is_in old n ≡ true → is_in new n ≡ true
pushed_kept (Ok x) old new k h i n u e = subst (λ (ns : List ℕ). is_in ns n ≡ true) (sym h) (in_more old k n e)
pushed_kept (Err x) old new k h i n u e = subst (λ (ns : List ℕ). is_in ns n ≡ true) (sym i) e

pub pushed_noted : {T E : Type 0} (r : Result T E) (lists : Lists) (i : ℕ) (old new : List ℕ) (k : ℕ) → slice_get lists i ≡ Some old → OnOk r (new ≡ old ++ k ∷ [])
    → OnOk r (is_noted (slice_set lists i new) i k ≡ true)
pushed_noted r lists i old new k at h = on_ok r (λ (e : new ≡ old ++ k ∷ []). set_noted lists i old new k at (subst (λ (ns : List ℕ). is_in ns k ≡ true) (sym e) (last_in old k))) h

pub popped : (r : Option ℕ) (old new : List ℕ) (depth n : ℕ) → MatchOption r ((old ≡ []) × (new ≡ [])) (λ (last : ℕ). old ≡ new ++ last ∷ []) → ends_from old depth ≡ true
    → n < depth → is_in old n ≡ true → is_in new n ≡ true
popped None old new depth n h from below e = absurd (let f : is_in [] n ≡ true = subst (λ (ns : List ℕ). is_in ns n ≡ true) h.0 e in grind (arith, f))
popped (Some last) old new depth n h from below e =
    last_struck new last depth n (subst (λ (ns : List ℕ). ends_from ns depth ≡ true) h from) below (subst (λ (ns : List ℕ). is_in ns n ≡ true) h e)

-- one more specification, if it came in
pub entered_or_refused : {T E : Type 0} (r : Result T E) (is_so : ℕ → Bound → Bool) (xs more : List Bound) (x : Bound) (number : ℕ) (old new : Lists)
    → OnOk r (more ≡ xs ++ x ∷ []) → OnErr r (more ≡ xs) → AreNoted is_so xs old → AreKept old new → number ≡ length xs
    → ((list : ℕ) → is_so list x ≡ true → is_noted new list number ≡ true) → AreNoted is_so more new
entered_or_refused (Ok y) is_so xs more x number old new i j h kept e there =
    subst (λ (ys : List Bound). AreNoted is_so ys new) (sym i)
    (entered is_so xs x old new h kept (λ (list : ℕ) (t : is_so list x ≡ true). subst (λ (k : ℕ). is_noted new list k ≡ true) e (there list t)))
entered_or_refused (Err y) is_so xs more x number old new i j h kept e there = subst (λ (ys : List Bound). AreNoted is_so ys new) (sym j) (refused is_so xs old new h kept)
