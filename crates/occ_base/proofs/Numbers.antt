-- The digits of the number of a short name.
use Rattle.std.proofs.Common.{◌≡◌, ◌≤◌, ◌<◌, ◌-◌, ◌+◌, ℕ, zero, suc, Bool, true, cond, List, [], ◌∷◌, ◌++◌, length, drop, replicate, Some, None, refl, arith, ap, sym, ◌∙◌, nat_le, get_or, append_assoc}
use Rattle.std.proofs.Math.ListN.{set}
use Rattle.std.proofs.lemmas.Bool.{and_parts}
use Rattle.std.proofs.lemmas.Bool.Decides.{nat_tests}
use Rattle.std.proofs.lemmas.List.{length-append, length-replicate, replicate_more, set_at}
use Rattle.std.specs.Int.{from_be_bytes, w128}
use Rattle.std.specs.List.{list_all}
use Rattle.occ_base.specs.Numbers.{digits, is_byte, is_short, number_of}
use Rattle.occ_base.proofs.Zeros.{zeros}

front_zeros : (n k : ℕ) (l : List ℕ) → n ≤ k → drop n (replicate k 0 ++ l) ≡ replicate (k - n) 0 ++ l
front_zeros zero k l h = let e : k - 0 ≡ k = omega arith in rw e refl
front_zeros (suc n) zero l h = absurd (omega (arith, h))
front_zeros (suc n) (suc k) l h = let e : suc k - suc n ≡ k - n = omega arith in rw e (front_zeros n k l (omega (arith, h)))

pub digits_are : (n : List ℕ) → length n ≤ 15 → digits n ≡ (n ++ replicate (15 - length n) 0) ++ length n ∷ []
digits_are n h = ap (λ (l : List ℕ). n ++ l) (front_zeros (length n) 15 (length n ∷ []) h) ∙ sym (append_assoc n (replicate (15 - length n) 0) (length n ∷ []))

pub filled_long : (n : List ℕ) → length n ≤ 15 → length (n ++ replicate (15 - length n) 0) ≡ 15
filled_long n h = omega (arith, length-append n (replicate (15 - length n) 0), length-replicate {A = ℕ} (15 - length n) 0, h)

-- the last of the zeros is where the length stands
last_zero : (n : List ℕ) → length n ≤ 15 → n ++ zeros (16 - length n) ≡ (n ++ zeros (15 - length n)) ++ 0 ∷ []
last_zero n h =
    let e : 16 - length n ≡ 15 - length n + 1 = omega (arith, h) in
    rw e (rw (← replicate_more {X = ℕ} (15 - length n) 0) (sym (append_assoc n (zeros (15 - length n)) (0 ∷ []))))

filled_digits : (n : List ℕ) → length n ≤ 15 → set (n ++ zeros (16 - length n)) 15 (length n) ≡ digits n
filled_digits n h = ap (λ (l : List ℕ). set l 15 (length n)) (last_zero n h) ∙ set_at (n ++ zeros (15 - length n)) 0 [] (length n) 15 (filled_long n h) ∙ sym (digits_are n h)

pub bytes_all : (xs : List ℕ) → ((i : ℕ) → get_or xs i 0 < 256) → list_all is_byte xs ≡ true
bytes_all [] h = refl
bytes_all (x ∷ xs) h = let e : is_byte x ≡ true = grind (arith, nat_tests, h 0) in rw e (bytes_all xs (λ i. h (suc i)))

front_all : (xs ys : List ℕ) → list_all is_byte (xs ++ ys) ≡ true → list_all is_byte xs ≡ true
front_all [] ys h = refl
front_all (x ∷ xs) ys h = let p = and_parts (is_byte x) (list_all is_byte (xs ++ ys)) h in rw p.0 (front_all xs ys p.1)

-- of bytes with zeros after them
pub number_filled : (m : ℕ) (xs a : List ℕ) → a ≡ xs ++ zeros (16 - length xs) → length xs ≡ m → m ≤ 15 → list_all is_byte a ≡ true → Some (from_be_bytes w128 (set a 15 m)) ≡ number_of xs
number_filled m xs a p n l b =
    let k : length xs ≤ 15 = omega (arith, n, l) in
    let few : nat_le (length xs) 15 ≡ true = grind (arith, nat_tests, k) in
    let s : is_short xs ≡ true = rw few (front_all xs (zeros (16 - length xs)) (rw p at b)) in
    let d : set a 15 m ≡ digits xs = rw p (rw (← n) (filled_digits xs k)) in
    ap (λ (x : List ℕ). Some (from_be_bytes w128 x)) d ∙ sym (ap (λ (c : Bool). cond c (Some (from_be_bytes w128 (digits xs))) None) s)
