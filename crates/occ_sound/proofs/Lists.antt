-- Lists: what is one of them, and what stands at a place.
use Rattle.std.proofs.Common.{◌≡◌, ◌<◌, ◌≤◌, ◌+◌, ℕ, zero, suc, Bool, true, false, ap, sym, ◌∙◌, refl, arith, List, [], ◌∷◌, ◌++◌, Some, None, inl, inr, length}
use Rattle.std.specs.Prelude.{◌⊎◌, ◌&&◌, ◌||◌, slice_get, take}
use Rattle.occ_running.specs.Memory.{IsOneOf}

pub and_left : (a b : Bool) → (a && b) ≡ true → a ≡ true
and_left true b h = refl
and_left false b h = cc

pub and_right : (a b : Bool) → (a && b) ≡ true → b ≡ true
and_right true b h = h
and_right false b h = cc

pub and_both : (a b : Bool) → a ≡ true → b ≡ true → (a && b) ≡ true
and_both true b h k = k
and_both false b h k = cc

pub or_cases : (a b : Bool) → (a || b) ≡ false → (a ≡ false) × (b ≡ false)
or_cases true b h = cc
or_cases false b h = (refl, h)

pub some_same : {X : Type 0} (x y : X) → Some x ≡ Some y → x ≡ y
some_same x y h = cc

pub none_some : {X A : Type 0} (x : X) → None ≡ Some x → A
none_some x h = cc

pub head_same : {X : Type 0} (x y : X) (xs ys : List X) → x ∷ xs ≡ y ∷ ys → x ≡ y
head_same x y xs ys h = cc

pub tail_same : {X : Type 0} (x y : X) (xs ys : List X) → x ∷ xs ≡ y ∷ ys → xs ≡ ys
tail_same x y xs ys h = cc

pub one_same : {X : Type 0} (x y : X) → x ∷ [] ≡ y ∷ [] → x ≡ y
one_same x y h = cc

pub no_more : {X : Type 0} (xs : List X) → xs ++ [] ≡ xs
no_more [] = refl
no_more (x ∷ xs) = ap (λ (ys : List _). x ∷ ys) (no_more xs)

-- ---- one of them

pub in_left : {X : Type 0} (x : X) (xs ys : List X) → IsOneOf xs x → IsOneOf (xs ++ ys) x
in_left x [] ys h = absurd h
in_left x (y ∷ xs) ys (inl e) = inl e
in_left x (y ∷ xs) ys (inr h) = inr (in_left x xs ys h)

pub in_right : {X : Type 0} (x : X) (xs ys : List X) → IsOneOf ys x → IsOneOf (xs ++ ys) x
in_right x [] ys h = h
in_right x (y ∷ xs) ys h = inr (in_right x xs ys h)

pub in_cases : {X : Type 0} (x : X) (xs ys : List X) → IsOneOf (xs ++ ys) x → IsOneOf xs x ⊎ IsOneOf ys x
in_cases x [] ys h = inr h
in_cases x (y ∷ xs) ys (inl e) = inl (inl e)
in_cases x (y ∷ xs) ys (inr h) = elim (in_cases x xs ys h) [ inl a ↦ inl (inr a) | inr b ↦ inr b ]

pub got_in : {X : Type 0} (xs : List X) (k : ℕ) (x : X) → slice_get xs k ≡ Some x → IsOneOf xs x
got_in [] k x h = cc
got_in (y ∷ xs) zero x h = inl (sym (some_same y x h))
got_in (y ∷ xs) (suc k) x h = inr (got_in xs k x h)

pub in_got : {X : Type 0} (xs : List X) (x : X) → IsOneOf xs x → (k : ℕ) × (slice_get xs k ≡ Some x)
in_got [] x h = absurd h
in_got (y ∷ xs) x (inl e) = (0, ap Some (sym e))
in_got (y ∷ xs) x (inr h) = let found = in_got xs x h in (suc found.0, found.1)

-- ---- places

pub get_more : {X : Type 0} (xs ys : List X) (n : ℕ) (z : X) → slice_get xs n ≡ Some z → slice_get (xs ++ ys) n ≡ Some z
get_more [] ys n z h = cc
get_more (x ∷ xs) ys zero z h = h
get_more (x ∷ xs) ys (suc n) z h = get_more xs ys n z h

-- one before, or one of those after
pub get_cases : {X : Type 0} (xs ys : List X) (n : ℕ) (z : X) → slice_get (xs ++ ys) n ≡ Some z → (slice_get xs n ≡ Some z) ⊎ ((i : ℕ) × (n ≡ length xs + i) × (slice_get ys i ≡ Some z))
get_cases [] ys n z h = inr (n, (omega arith), h)
get_cases (x ∷ xs) ys zero z h = inl h
get_cases (x ∷ xs) ys (suc n) z h = elim (get_cases xs ys n z h) [ inl a ↦ inl a | inr b ↦ inr (b.0, (let e : n ≡ length xs + b.0 = b.1 in omega (arith, e)), b.2) ]

pub get_last : {X : Type 0} (xs : List X) (y : X) (n : ℕ) (z : X) → slice_get (xs ++ y ∷ []) n ≡ Some z → (slice_get xs n ≡ Some z) ⊎ ((n ≡ length xs) × (y ≡ z))
get_last [] y zero z h = inr (refl, cc)
get_last [] y (suc n) z h = cc
get_last (x ∷ xs) y zero z h = inl h
get_last (x ∷ xs) y (suc n) z h = elim (get_last xs y n z h) [ inl a ↦ inl a | inr b ↦ inr (ap suc b.0, b.1) ]

pub get_end : {X : Type 0} (xs : List X) (y : X) → slice_get (xs ++ y ∷ []) (length xs) ≡ Some y
get_end [] y = refl
get_end (x ∷ xs) y = get_end xs y

pub get_below : {X : Type 0} (xs : List X) (n : ℕ) (z : X) → slice_get xs n ≡ Some z → n < length xs
get_below [] n z h = cc
get_below (x ∷ xs) zero z h = omega arith
get_below (x ∷ xs) (suc n) z h = let k : n < length xs = get_below xs n z h in omega (arith, k)

pub length_last : {X : Type 0} (xs : List X) (y : X) → length (xs ++ y ∷ []) ≡ suc (length xs)
length_last [] y = refl
length_last (x ∷ xs) y = ap suc (length_last xs y)

-- ---- fronts

pub take_more : {X : Type 0} (xs ys : List X) (n : ℕ) → n ≤ length xs → take n (xs ++ ys) ≡ take n xs
take_more xs ys zero h = refl
take_more [] ys (suc n) h = absurd (omega (arith, h))
take_more (x ∷ xs) ys (suc n) h = ap (λ (zs : List _). x ∷ zs) (take_more xs ys n (let k : suc n ≤ suc (length xs) = h in omega (arith, k)))

pub take_all : {X : Type 0} (xs ys : List X) → take (length xs) (xs ++ ys) ≡ xs
take_all [] ys = refl
take_all (x ∷ xs) ys = ap (λ (zs : List _). x ∷ zs) (take_all xs ys)

pub take_length : {X : Type 0} (n : ℕ) (xs : List X) → n ≤ length xs → length (take n xs) ≡ n
take_length zero xs h = refl
take_length (suc n) [] h = absurd (omega (arith, h))
take_length (suc n) (x ∷ xs) h = ap suc (take_length n xs (let k : suc n ≤ suc (length xs) = h in omega (arith, k)))

pub take_take : {X : Type 0} (xs : List X) (k n : ℕ) → k ≤ n → take k (take n xs) ≡ take k xs
take_take xs zero n h = refl
take_take xs (suc k) zero h = absurd (omega (arith, h))
take_take [] (suc k) (suc n) h = refl
take_take (x ∷ xs) (suc k) (suc n) h = ap (λ (ys : List _). x ∷ ys) (take_take xs k n (let l : suc k ≤ suc n = h in omega (arith, l)))

-- ---- what stands in a front

pub get_front : {X : Type 0} (xs ys : List X) (n : ℕ) → n < length xs → slice_get (xs ++ ys) n ≡ slice_get xs n
get_front [] ys n h = absurd (omega (arith, h))
get_front (x ∷ xs) ys zero h = refl
get_front (x ∷ xs) ys (suc n) h = get_front xs ys n (let k : suc n < suc (length xs) = h in omega (arith, k))

pub get_behind : {X : Type 0} (xs ys : List X) (i : ℕ) → slice_get (xs ++ ys) (length xs + i) ≡ slice_get ys i
get_behind [] ys i = let e : 0 + i ≡ i = omega arith in ap (λ (n : ℕ). slice_get ys n) e
get_behind (x ∷ xs) ys i = let e : suc (length xs) + i ≡ suc (length xs + i) = omega arith in ap (λ (n : ℕ). slice_get (x ∷ (xs ++ ys)) n) e ∙ get_behind xs ys i

pub get_taken : {X : Type 0} (xs : List X) (n m : ℕ) → m < n → slice_get (take n xs) m ≡ slice_get xs m
get_taken xs zero m h = absurd (omega (arith, h))
get_taken [] (suc n) m h = refl
get_taken (x ∷ xs) (suc n) zero h = refl
get_taken (x ∷ xs) (suc n) (suc m) h = get_taken xs n m (let k : suc m < suc n = h in omega (arith, k))
