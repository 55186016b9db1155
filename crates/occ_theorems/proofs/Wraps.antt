-- The number that wraps to the range of a type is the one there that differs by a multiple of 2 to the number of bits.
use Rattle.std.proofs.Common.{◌≡◌, ◌<◌, ◌≤◌, ◌+◌, ◌*◌, ◌/◌, ◌%◌, ◌^◌, ℕ, zero, suc, Bool, true, false, cond, ◌⊎◌, inl, inr, ap, arith}
use Rattle.std.specs.Prelude.{ℤ, pos, negsuc, ◌+ℤ◌, ◌-ℤ◌, ◌<ℤ◌, int_le, unsigned_abs, IsTrue}
use Rattle.std.specs.Int.{int_rem_euclid}
use Rattle.std.proofs.lemmas.Int.{ints}
use Rattle.std.proofs.lemmas.Nat.{div-add-mod'}
use Rattle.std.proofs.Math.Nat.{mod-lt, mul-le-mul_right}
use Rattle.std.proofs.lemmas.Bool.{cases_lt}
use Rattle.occ_types.specs.declared.value.Primitive.{Primitive}
use Rattle.occ_types.specs.declared.value.Primitive.TheVariants as p
use Rattle.occ_types.specs.Constant.{bits_of, greatest_of, is_in_range, pattern_of, wrapped, IsCongruent}

-- one is the other and a multiple of m
abbrev IsNear : ℕ → ℤ → ℤ → Type 0
IsNear m a b = (k : ℕ) × ((a +ℤ pos (k * m) ≡ b) ⊎ (b +ℤ pos (k * m) ≡ a))

rest_near : (n : ℤ) (m : ℕ) → 0 < m → IsNear m (pos (unsigned_abs (int_rem_euclid n (pos m)))) n
rest_near (pos a) m h = let e : a / m * m + a % m ≡ a = div-add-mod' a m in (a / m, inl (omega (arith, ints)))
rest_near (negsuc a) m h =
    let e : a / m * m + a % m ≡ a = div-add-mod' a m in
    let l : a % m < m = mod-lt a h in
    (suc (a / m), inr (omega (arith, ints)))

less_near : (m r : ℕ) (n : ℤ) → IsNear m (pos r) n → IsNear m (pos r -ℤ pos m) n
less_near m r n (k, inl e) = (suc k, inl (omega (arith, ints)))
less_near m r n (zero, inr e) = (1, inl (omega (arith, ints)))
less_near m r n (suc k, inr e) = (k, inr (omega (arith, ints)))

either_near : (b : Bool) (m r : ℕ) (n : ℤ) → IsNear m (pos r) n → IsNear m (cond b (pos r) (pos r -ℤ pos m)) n
either_near true m r n h = h
either_near false m r n h = less_near m r n h

power_positive : (t : Primitive) → 0 < 2 ^ bits_of t
power_positive p.Bool = omega arith
power_positive p.Byte = omega arith
power_positive p.Int16 = omega arith
power_positive p.Int = omega arith
power_positive p.Int32 = omega arith
power_positive p.Int64 = omega arith

pub wrapped_near : (t : Primitive) (n : ℤ) → IsCongruent t (wrapped t n) n
wrapped_near t n = either_near (int_le (pos (pattern_of t n)) (greatest_of t)) (2 ^ bits_of t) (pattern_of t n) n (rest_near n (2 ^ bits_of t) (power_positive t))

pub wrapped_in : (t : Primitive) (n : ℤ) → IsTrue (is_in_range t (wrapped t n))
wrapped_in p.Bool n = grind (arith, ints)
wrapped_in p.Byte n = grind (arith, ints)
wrapped_in p.Int16 n = grind (arith, ints)
wrapped_in p.Int n = grind (arith, ints)
wrapped_in p.Int32 n = grind (arith, ints)
wrapped_in p.Int64 n = grind (arith, ints)

far : (m k j : ℕ) → k < j → k * m + m ≤ j * m
far m k j h = let l : suc k * m ≤ j * m = mul-le-mul_right m h in omega arith

-- multiples of m that are less than m apart are one
multiples : (m k j : ℕ) → k * m < j * m + m → j * m < k * m + m → k * m ≡ j * m
multiples m k j h h' =
    elim (cases_lt k j) [
      | inl less ↦ let l : k * m + m ≤ j * m = far m k j less in absurd (omega arith)
      | inr most ↦
          elim (cases_lt j k) [
            | inl more ↦ let l : j * m + m ≤ k * m = far m j k more in absurd (omega arith)
            | inr least ↦ let e : k ≡ j = omega arith in ap (λ (x : ℕ). x * m) e
          ]
    ]

no_multiple : (m k : ℕ) → k * m < m → k * m ≡ 0
no_multiple m zero h = omega arith
no_multiple m (suc k) h = absurd (omega arith)

-- two numbers that are near a third one, and lie less than m apart, are one
near_one : (m : ℕ) (a b n : ℤ) → a <ℤ (b +ℤ pos m) → b <ℤ (a +ℤ pos m) → IsNear m a n → IsNear m b n → a ≡ b
near_one m a b n h h' (k, inl e) (j, inl f) = let l : k * m ≡ j * m = multiples m k j (omega (arith, ints)) (omega (arith, ints)) in omega (arith, ints)
near_one m a b n h h' (k, inr e) (j, inr f) = let l : k * m ≡ j * m = multiples m k j (omega (arith, ints)) (omega (arith, ints)) in omega (arith, ints)
near_one m a b n h h' (k, inl e) (j, inr f) = let l : k * m ≡ 0 = no_multiple m k (omega (arith, ints)) in let r : j * m ≡ 0 = no_multiple m j (omega (arith, ints)) in omega (arith, ints)
near_one m a b n h h' (k, inr e) (j, inl f) = let l : k * m ≡ 0 = no_multiple m k (omega (arith, ints)) in let r : j * m ≡ 0 = no_multiple m j (omega (arith, ints)) in omega (arith, ints)

pub one_in_range : (t : Primitive) (a b n : ℤ) → IsTrue (is_in_range t a) → IsTrue (is_in_range t b) → IsCongruent t a n → IsCongruent t b n → a ≡ b
one_in_range p.Bool a b n ha hb x y = near_one 2 a b n (grind (arith, ints)) (grind (arith, ints)) x y
one_in_range p.Byte a b n ha hb x y = near_one 256 a b n (grind (arith, ints)) (grind (arith, ints)) x y
one_in_range p.Int16 a b n ha hb x y = near_one 65536 a b n (grind (arith, ints)) (grind (arith, ints)) x y
one_in_range p.Int a b n ha hb x y = near_one 4294967296 a b n (grind (arith, ints)) (grind (arith, ints)) x y
one_in_range p.Int32 a b n ha hb x y = near_one 4294967296 a b n (grind (arith, ints)) (grind (arith, ints)) x y
one_in_range p.Int64 a b n ha hb x y = near_one 18446744073709551616 a b n (grind (arith, ints)) (grind (arith, ints)) x y
