-- Bytes of one length come in the order of the numbers of which they are the digits.
use Rattle.std.proofs.Common.{◌≡◌, ◌<◌, ◌+◌, ◌-◌, ◌*◌, ◌^◌, ℕ, zero, suc, List, [], ◌∷◌, length, refl, arith, sym, ap, ◌∙◌, slice_index, get_or, nat_eq, bytes_eq}
use native.Mathlib.Numerals.{unary_clauses}
use Rattle.std.proofs.lemmas.Cmp.{ranked}
use Rattle.std.proofs.lemmas.Bool.Decides.{nat_tests}
use Rattle.std.proofs.lemmas.Map.Text.{is_eq-slice_cmp}
use Rattle.std.proofs.lemmas.Nat.{mul-add-lt}
use Rattle.std.specs.Cmp.Lexicographic.{slice_cmp}
use Rattle.std.specs.Int.{byte_worth, sum_through, from_be_bytes, w128}
use Rattle.std.specs.Ordering.{nat_cmp, ordering_then, is_eq, MatchOrdering}
use Rattle.std.specs.declared.cmp.Ordering.{Ordering}
use Rattle.std.specs.declared.cmp.Ordering.TheVariants.{Less, Equal, Greater}

-- each is a byte
abbrev pub AreBytes : List ℕ → Type 0
AreBytes xs = (i : ℕ) → get_or xs i 0 < 256

abbrev pub number : List ℕ → ℕ
number [] = 0
number (x ∷ xs) = x * 256 ^ length xs + number xs

below : (xs : List ℕ) → AreBytes xs → number xs < 256 ^ length xs
below [] h = omega arith
below (x ∷ xs) h =
    let e : 256 ^ suc (length xs) ≡ 256 ^ length xs * 256 = simp unary_clauses refl in
    let p : x * 256 ^ length xs + number xs < 256 ^ length xs * 256 = mul-add-lt x (256 ^ length xs) (number xs) 256 (h 0) (below xs (λ i. h (suc i))) in
    omega (arith, e, p)

-- ---- the order of two numbers

lesser : (m n : ℕ) (r : Ordering) → MatchOrdering r (m < n) (m ≡ n) (n < m) → m < n → r ≡ Less
lesser m n Less h l = refl
lesser m n Equal h l = absurd (omega (arith, h, l))
lesser m n Greater h l = absurd (omega (arith, h, l))

equal : (m n : ℕ) (r : Ordering) → MatchOrdering r (m < n) (m ≡ n) (n < m) → m ≡ n → r ≡ Equal
equal m n Less h l = absurd (omega (arith, h, l))
equal m n Equal h l = refl
equal m n Greater h l = absurd (omega (arith, h, l))

greater : (m n : ℕ) (r : Ordering) → MatchOrdering r (m < n) (m ≡ n) (n < m) → n < m → r ≡ Greater
greater m n Less h l = absurd (omega (arith, h, l))
greater m n Equal h l = absurd (omega (arith, h, l))
greater m n Greater h l = refl

pub is_less : (m n : ℕ) → m < n → nat_cmp m n ≡ Less
is_less m n = lesser m n _ (ranked m n _ refl)

pub is_equal : (m n : ℕ) → m ≡ n → nat_cmp m n ≡ Equal
is_equal m n = equal m n _ (ranked m n _ refl)

pub is_greater : (m n : ℕ) → n < m → nat_cmp m n ≡ Greater
is_greater m n = greater m n _ (ranked m n _ refl)

as_ranked : (m n k l : ℕ) (r : Ordering) → MatchOrdering r (k < l) (k ≡ l) (l < k) → (k < l → m < n) → (k ≡ l → m ≡ n) → (l < k → n < m) → nat_cmp m n ≡ r
as_ranked m n k l Less h f e g = is_less m n (f h)
as_ranked m n k l Equal h f e g = is_equal m n (e h)
as_ranked m n k l Greater h f e g = is_greater m n (g h)

-- two numbers are ordered as two that lie as they do
pub as_these : (m n k l : ℕ) → (k < l → m < n) → (k ≡ l → m ≡ n) → (l < k → n < m) → nat_cmp m n ≡ nat_cmp k l
as_these m n k l = as_ranked m n k l (nat_cmp k l) (ranked k l _ refl)

-- ---- the order of digits

higher : (x y : ℕ) (xs ys : List ℕ) → length xs ≡ length ys → AreBytes xs → x < y → number (x ∷ xs) < number (y ∷ ys)
higher x y xs ys e a l =
    let p : x * 256 ^ length xs + number xs < 256 ^ length xs * y = mul-add-lt x (256 ^ length xs) (number xs) y l (below xs a) in
    let q : 256 ^ length xs * y ≡ y * 256 ^ length ys = rw e (omega arith) in
    omega (arith, p, q)

alike : (x y : ℕ) (xs ys : List ℕ) → length xs ≡ length ys → x ≡ y → nat_cmp (number (x ∷ xs)) (number (y ∷ ys)) ≡ nat_cmp (number xs) (number ys)
alike x y xs ys e s =
    let w : x * 256 ^ length xs ≡ y * 256 ^ length ys = rw s (rw e refl) in
    as_these (number (x ∷ xs)) (number (y ∷ ys)) (number xs) (number ys) (λ h. omega (arith, w, h)) (λ h. omega (arith, w, h)) (λ h. omega (arith, w, h))

decided : (x y : ℕ) (xs ys : List ℕ) → length xs ≡ length ys → AreBytes xs → AreBytes ys → nat_cmp (number xs) (number ys) ≡ slice_cmp nat_cmp xs ys → (r : Ordering) → MatchOrdering r (x < y) (x ≡ y) (y < x) → nat_cmp (number (x ∷ xs)) (number (y ∷ ys)) ≡ ordering_then r (slice_cmp nat_cmp xs ys)
decided x y xs ys e a b more Less h = is_less _ _ (higher x y xs ys e a h)
decided x y xs ys e a b more Equal h = alike x y xs ys e h ∙ more
decided x y xs ys e a b more Greater h = is_greater _ _ (higher y x ys xs (sym e) b h)

pub ordered : (xs ys : List ℕ) → length xs ≡ length ys → AreBytes xs → AreBytes ys → nat_cmp (number xs) (number ys) ≡ slice_cmp nat_cmp xs ys
ordered [] [] e a b = refl
ordered [] (y ∷ ys) e a b = absurd (omega (arith, e))
ordered (x ∷ xs) [] e a b = absurd (omega (arith, e))
ordered (x ∷ xs) (y ∷ ys) e a b =
    let long : length xs ≡ length ys = omega (arith, e) in
    decided x y xs ys long (λ i. a (suc i)) (λ i. b (suc i)) (ordered xs ys long (λ i. a (suc i)) (λ i. b (suc i))) (nat_cmp x y) (ranked x y _ refl)

-- numbers are the same where none is less
tied : (m n : ℕ) → nat_eq m n ≡ is_eq (nat_cmp m n)
tied m n = grind (arith, nat_tests)

pub same : (xs ys : List ℕ) → length xs ≡ length ys → AreBytes xs → AreBytes ys → nat_eq (number xs) (number ys) ≡ bytes_eq xs ys
same xs ys e a b = tied (number xs) (number ys) ∙ ap is_eq (ordered xs ys e a b) ∙ is_eq-slice_cmp xs ys

-- ---- what 16 bytes are worth

same_sum : (f g : ℕ → ℕ) (k : ℕ) → ((i : ℕ) → f i ≡ g i) → sum_through f k ≡ sum_through g k
same_sum f g zero h = h 0
same_sum f g (suc k) h = rw (h (suc k)) (ap (λ n. n + g (suc k)) (same_sum f g k h))

first : (f : ℕ → ℕ) (k : ℕ) → sum_through f (suc k) ≡ f 0 + sum_through (λ i. f (suc i)) k
first f zero = refl
first f (suc k) =
    let e : sum_through f (suc k) ≡ f 0 + sum_through (λ i. f (suc i)) k = first f k in
    omega (arith, e)

worth : (k : ℕ) (xs : List ℕ) → length xs ≡ suc k → sum_through (λ i. byte_worth (k - i) (slice_index xs i)) k ≡ number xs
worth k [] h = absurd (omega (arith, h))
worth zero (x ∷ []) h = let e : x ≡ x * 1 + 0 = omega arith in e
worth zero (x ∷ y ∷ xs) h = absurd (omega (arith, h))
worth (suc k) (x ∷ xs) h =
    let n : length xs ≡ suc k = omega (arith, h) in
    let p = first (λ i. byte_worth (suc k - i) (slice_index (x ∷ xs) i)) k in
    let q = same_sum (λ i. byte_worth (suc k - suc i) (slice_index xs i)) (λ i. byte_worth (k - i) (slice_index xs i)) k (λ i. ap (λ m. byte_worth m (slice_index xs i)) (omega arith)) in
    let r : x * 256 ^ suc k ≡ x * 256 ^ length xs = rw n refl in
    let z : byte_worth (suc k - 0) x ≡ x * 256 ^ suc k = let e : suc k - 0 ≡ suc k = omega arith in rw e refl in
    p ∙ rw q (rw (worth k xs n) (ap (λ m. m + number xs) (z ∙ r)))

pub is_number : (xs : List ℕ) → length xs ≡ 16 → from_be_bytes w128 xs ≡ number xs
is_number xs h = worth 15 xs h
