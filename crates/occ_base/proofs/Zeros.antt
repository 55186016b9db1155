-- Bytes with zeros after them, up to one length: what their order and their equality say of the bytes.
use Rattle.std.proofs.Common.{◌≡◌, ◌≢◌, ◌≤◌, ◌<◌, ◌+◌, ◌-◌, ℕ, zero, suc, true, ◌&&◌, List, [], ◌∷◌, ◌++◌, length, take, drop, replicate, refl, arith, ap, sym, subst, ◌∙◌, append_assoc, bytes_eq, nat_eq, take-append-drop, length-take}
use Rattle.std.proofs.lemmas.Cmp.{ranked}
use Rattle.std.proofs.lemmas.List.{drop-replicate, length-append, length-replicate}
use Rattle.std.specs.Cmp.Lexicographic.{slice_cmp, bytes_decides}
use Rattle.std.specs.Ordering.{nat_cmp, ordering_then, MatchOrdering}
use Rattle.std.specs.declared.cmp.Ordering.{Ordering}
use Rattle.std.specs.declared.cmp.Ordering.TheVariants.{Less, Equal, Greater}
use Rattle.occ_base.proofs.Digits.{is_less, is_equal, is_greater, as_these}

abbrev pub zeros : ℕ → List ℕ
zeros n = replicate n 0

-- ---- the order

level : (xs : List ℕ) → slice_cmp nat_cmp xs xs ≡ Equal
level [] = refl
level (x ∷ xs) = rw (is_equal x x refl) (level xs)

-- zeros are before any others of one length, or are the same
no_higher : (x : ℕ) (s o : Ordering) → ordering_then s o ≡ Less → (r : Ordering) → MatchOrdering r (0 < x) (0 ≡ x) (x < 0) → ordering_then (ordering_then r s) o ≡ Less
no_higher x s o h Less m = refl
no_higher x s o h Equal m = h
no_higher x s o h Greater m = absurd (omega (arith, m))

low : (xs : List ℕ) (o : Ordering) → o ≡ Less → ordering_then (slice_cmp nat_cmp (zeros (length xs)) xs) o ≡ Less
low [] o h = h
low (x ∷ xs) o h = no_higher x (slice_cmp nat_cmp (zeros (length xs)) xs) o (low xs o h) (nat_cmp 0 x) (ranked 0 x _ refl)

no_lower : (x : ℕ) (s o : Ordering) → ordering_then s o ≡ Greater → (r : Ordering) → MatchOrdering r (x < 0) (x ≡ 0) (0 < x) → ordering_then (ordering_then r s) o ≡ Greater
no_lower x s o h Less m = absurd (omega (arith, m))
no_lower x s o h Equal m = h
no_lower x s o h Greater m = refl

high : (xs : List ℕ) (o : Ordering) → o ≡ Greater → ordering_then (slice_cmp nat_cmp xs (zeros (length xs))) o ≡ Greater
high [] o h = h
high (x ∷ xs) o h = no_lower x (slice_cmp nat_cmp xs (zeros (length xs))) o (high xs o h) (nat_cmp x 0) (ranked x 0 _ refl)

under : (r s o t : Ordering) → ordering_then s o ≡ t → ordering_then (ordering_then r s) o ≡ ordering_then r t
under Less s o t h = refl
under Equal s o t h = h
under Greater s o t h = refl

pub one_more : (m n : ℕ) → nat_cmp (suc m) (suc n) ≡ nat_cmp m n
one_more m n = as_these (suc m) (suc n) m n (λ h. omega (arith, h)) (λ h. omega (arith, h)) (λ h. omega (arith, h))

-- the order of bytes is that of what is filled up, and else that of their lengths
pub filled_order : (xs ys : List ℕ) (j k : ℕ) → length xs + j ≡ length ys + k → ordering_then (slice_cmp nat_cmp (xs ++ zeros j) (ys ++ zeros k)) (nat_cmp (length xs) (length ys)) ≡ slice_cmp nat_cmp xs ys
filled_order [] [] j k h = let e : j ≡ k = omega (arith, h) in rw e (rw (level (zeros k)) refl)
filled_order [] (y ∷ ys) j k h =
    let e : j ≡ length ((y ∷ ys) ++ zeros k) = omega (arith, h, length-append ys (zeros k), length-replicate {A = ℕ} k 0) in
    rw e (low ((y ∷ ys) ++ zeros k) _ (is_less 0 (suc (length ys)) (omega arith)))
filled_order (x ∷ xs) [] j k h =
    let e : k ≡ length ((x ∷ xs) ++ zeros j) = omega (arith, h, length-append xs (zeros j), length-replicate {A = ℕ} j 0) in
    rw e (high ((x ∷ xs) ++ zeros j) _ (is_greater (suc (length xs)) 0 (omega arith)))
filled_order (x ∷ xs) (y ∷ ys) j k h =
    let more = filled_order xs ys j k (omega (arith, h)) in
    rw (one_more (length xs) (length ys)) (under (nat_cmp x y) (slice_cmp nat_cmp (xs ++ zeros j) (ys ++ zeros k)) (nat_cmp (length xs) (length ys)) (slice_cmp nat_cmp xs ys) more)

-- ---- equality

itself : (xs : List ℕ) → bytes_eq xs xs ≡ true
itself xs = (bytes_decides xs xs).1 refl

filled_same : (xs ys : List ℕ) (j k : ℕ) → length xs ≡ length ys → j ≡ k → bytes_eq (xs ++ zeros j) (ys ++ zeros k) ≡ bytes_eq xs ys
filled_same [] [] j k h e = rw e (itself (zeros k))
filled_same [] (y ∷ ys) j k h e = absurd (omega (arith, h))
filled_same (x ∷ xs) [] j k h e = absurd (omega (arith, h))
filled_same (x ∷ xs) (y ∷ ys) j k h e = ap (λ b. nat_eq x y && b) (filled_same xs ys j k (omega (arith, h)) e)

-- ---- as they are held

pub held : (k m : ℕ) (a : List ℕ) → drop m a ≡ zeros k → take m a ++ zeros k ≡ a
held k m a z = rw (← z) (take-append-drop m a)

pub long : (m : ℕ) (a xs : List ℕ) → take m a ≡ xs → m ≤ length a → length xs ≡ m
long m a xs s l = ap length (sym s) ∙ omega (arith, length-take m a, l)

zeros_more : (j k : ℕ) → zeros j ++ zeros k ≡ zeros (j + k)
zeros_more zero k = let e : 0 + k ≡ k = omega arith in rw e refl
zeros_more (suc j) k = let e : suc j + k ≡ suc (j + k) = omega arith in rw e (ap (λ (l : List ℕ). 0 ∷ l) (zeros_more j k))

more_zeros : (xs : List ℕ) (j k : ℕ) → (xs ++ zeros j) ++ zeros k ≡ xs ++ zeros (j + k)
more_zeros xs j k = append_assoc xs (zeros j) (zeros k) ∙ ap (λ (l : List ℕ). xs ++ l) (zeros_more j k)

-- bytes at the front of 14, with two zeros more
pub filled : (m : ℕ) (a xs front back : List ℕ) → take m a ≡ xs → m ≤ 14 → length a ≡ 14 → drop m a ≡ zeros (14 - m) → front ≡ a → back ≡ drop 14 (replicate 16 0) → front ++ back ≡ xs ++ zeros (16 - length xs)
filled m a xs front back s l w z f b =
    let n : length xs ≡ m = long m a xs s (omega (arith, l, w)) in
    let e : back ≡ zeros 2 = b ∙ drop-replicate 14 16 0 in
    let h : front ≡ xs ++ zeros (14 - m) = f ∙ sym (held (14 - m) m a z) ∙ ap (λ (l : List ℕ). l ++ zeros (14 - m)) s in
    let c : 14 - m + 2 ≡ 16 - length xs = omega (arith, n, l) in
    rw h (rw e (more_zeros xs (14 - m) 2 ∙ ap (λ (k : ℕ). xs ++ zeros k) c))

-- bytes at the front of 16 zeros
pub spread : (xs front back : List ℕ) → front ≡ xs → back ≡ drop (length xs) (replicate 16 0) → front ++ back ≡ xs ++ zeros (16 - length xs)
spread xs front back f b = rw f (rw (b ∙ drop-replicate (length xs) 16 0) refl)

pub same_filled : (xs ys a b : List ℕ) → a ≡ xs ++ zeros (16 - length xs) → b ≡ ys ++ zeros (16 - length ys) → length xs ≡ length ys → bytes_eq a b ≡ bytes_eq xs ys
same_filled xs ys a b p q h = rw p (rw q (filled_same xs ys (16 - length xs) (16 - length ys) h (ap (λ (n : ℕ). 16 - n) h)))

pub order_filled : (m n : ℕ) (xs ys a b : List ℕ) → a ≡ xs ++ zeros (16 - length xs) → b ≡ ys ++ zeros (16 - length ys) → length xs ≡ m → length ys ≡ n → m ≤ 14 → n ≤ 14 → ordering_then (slice_cmp nat_cmp a b) (nat_cmp m n) ≡ slice_cmp nat_cmp xs ys
order_filled m n xs ys a b p q i j k l =
    let o = filled_order xs ys (16 - length xs) (16 - length ys) (omega (arith, i, j, k, l)) in
    rw p (rw q (rw (← i) (rw (← j) o)))

-- the second of two orders counts where the first is equal
pub second_counts : (s o t : Ordering) → s ≡ Equal → ordering_then s o ≡ t → o ≡ t
second_counts s o t e h = subst (λ x. ordering_then x o ≡ t) e h

-- and else the first
pub first_counts : (s o t : Ordering) → s ≢ Equal → ordering_then s o ≡ t → s ≡ t
first_counts Less o t n h = h
first_counts Equal o t n h = absurd (n refl)
first_counts Greater o t n h = h
