-- No two short names have one number, so that what is put by number is put by name.
use Rattle.std.proofs.Common.{◌≡◌, ◌≤◌, ◌<◌, ◌-◌, ℕ, zero, suc, Bool, true, false, ◌&&◌, cond, List, [], ◌∷◌, ◌++◌, length, drop, replicate, Option, Some, None, refl, arith, ap, sym, subst, ◌∙◌, bytes_eq, nat_eq, nat_le, get_or, append_assoc, length-append}
use Rattle.std.proofs.lemmas.Bool.{and_parts}
use Rattle.std.proofs.lemmas.Bool.Decides.{nat_tests}
use Rattle.std.proofs.lemmas.List.{length-replicate}
use Rattle.std.proofs.lemmas.Map.Lookups.{exact_bytes}
use Rattle.std.proofs.lemmas.Map.Text.{is_eq-slice_cmp}
use Rattle.std.specs.BTreeMap.{BTreeMap, get}
use Rattle.std.specs.Cmp.Lexicographic.{slice_cmp, bytes_decides}
use Rattle.std.specs.Int.{from_be_bytes, w128}
use Rattle.std.specs.List.{list_all}
use Rattle.std.specs.Ordering.{nat_cmp, is_eq}
use Rattle.occ_base.proofs.Digits.{is_number, same}
use Rattle.occ_base.proofs.Numbers.{digits_are, filled_long}
use Rattle.occ_base.specs.Numbers.{digits, is_byte, is_short, number_of}
use Rattle.occ_scope.proofs.Stacked.{equal}
use Rattle.occ_scope.specs.Nearest.{is_same_name}
use Rattle.occ_scope.specs.declared.places.Places.{Places}
use Rattle.occ_scope.specs.inside.Places.{Puts, held_by}

-- ---- the digits

pub digits_long : (n : List ℕ) → length n ≤ 15 → length (digits n) ≡ 16
digits_long n h = ap length (digits_are n h) ∙ omega (arith, length-append (n ++ replicate (15 - length n) 0) (length n ∷ []), filled_long n h)

abbrev tail_of : List ℕ → List ℕ
tail_of [] = []
tail_of (x ∷ xs) = xs

abbrev head_of : List ℕ → ℕ
head_of [] = 0
head_of (x ∷ xs) = x

parts : (a b c d : List ℕ) → length a ≡ length b → a ++ c ≡ b ++ d → (a ≡ b) × (c ≡ d)
parts [] [] c d h e = (refl, e)
parts [] (y ∷ b) c d h e = absurd (omega (arith, h))
parts (x ∷ a) [] c d h e = absurd (omega (arith, h))
parts (x ∷ a) (y ∷ b) c d h e =
    let rest = parts a b c d (omega (arith, h)) (ap tail_of e) in
    let head : x ≡ y = ap head_of e in
    (rw head (ap (λ (l : List ℕ). y ∷ l) rest.0), rest.1)

injective : (a b : List ℕ) → length a ≤ 15 → length b ≤ 15 → digits a ≡ digits b → a ≡ b
injective a b h k e =
    let p = parts (a ++ replicate (15 - length a) 0) (b ++ replicate (15 - length b) 0) (length a ∷ []) (length b ∷ []) (filled_long a h ∙ sym (filled_long b k)) (sym (digits_are a h) ∙ e ∙ digits_are b k) in
    (parts a b _ _ (ap head_of p.1) p.0).0

-- ---- they are bytes

is_below : (x : ℕ) → is_byte x ≡ true → x < 256
is_below x h = grind (arith, nat_tests, h)

bytes_below : (xs : List ℕ) → list_all is_byte xs ≡ true → (i : ℕ) → get_or xs i 0 < 256
bytes_below [] h i = omega arith
bytes_below (x ∷ xs) h zero = is_below x (and_parts (is_byte x) (list_all is_byte xs) h).0
bytes_below (x ∷ xs) h (suc i) = bytes_below xs (and_parts (is_byte x) (list_all is_byte xs) h).1 i

all_more : (xs ys : List ℕ) → list_all is_byte xs ≡ true → list_all is_byte ys ≡ true → list_all is_byte (xs ++ ys) ≡ true
all_more [] ys h k = k
all_more (x ∷ xs) ys h k =
    let p = and_parts (is_byte x) (list_all is_byte xs) h in
    rw p.0 (all_more xs ys p.1 k)

zeros_all : (k : ℕ) → list_all is_byte (replicate k 0) ≡ true
zeros_all zero = refl
zeros_all (suc k) = zeros_all k

count_all : (n : ℕ) → n ≤ 15 → list_all is_byte (n ∷ []) ≡ true
count_all n h = let e : is_byte n ≡ true = grind (arith, nat_tests, h) in rw e refl

digits_all : (n : List ℕ) → length n ≤ 15 → list_all is_byte n ≡ true → list_all is_byte (digits n) ≡ true
digits_all n h b = ap (list_all is_byte) (digits_are n h) ∙ all_more (n ++ replicate (15 - length n) 0) (length n ∷ []) (all_more n (replicate (15 - length n) 0) b (zeros_all (15 - length n))) (count_all (length n) h)

pub short_parts : (n : List ℕ) → is_short n ≡ true → (length n ≤ 15) × (list_all is_byte n ≡ true)
short_parts n h =
    let p = and_parts (nat_le (length n) 15) (list_all is_byte n) h in
    (grind (arith, nat_tests, p.0), p.1)

-- ---- the numbers

abbrev number : List ℕ → ℕ
number n = from_be_bytes w128 (digits n)

agree : (b c : Bool) → (b ≡ true → c ≡ true) → (c ≡ true → b ≡ true) → b ≡ c
agree true c f g = sym (f refl)
agree false true f g = g refl
agree false false f g = refl

same_digits : (a b : List ℕ) → length a ≤ 15 → length b ≤ 15 → bytes_eq (digits a) (digits b) ≡ bytes_eq a b
same_digits a b h k = agree (bytes_eq (digits a) (digits b)) (bytes_eq a b)
    (λ t. (bytes_decides a b).1 (injective a b h k ((bytes_decides (digits a) (digits b)).0 t)))
    (λ t. (bytes_decides (digits a) (digits b)).1 (ap digits ((bytes_decides a b).0 t)))

tied : (m n : ℕ) → is_eq (nat_cmp m n) ≡ nat_eq m n
tied m n = grind (arith, nat_tests)

same_number : (a b : List ℕ) → is_short a ≡ true → is_short b ≡ true → is_eq (nat_cmp (number a) (number b)) ≡ is_same_name a b
same_number a b s t =
    let p = short_parts a s in
    let q = short_parts b t in
    let e : nat_eq (number a) (number b) ≡ bytes_eq a b =
    rw (is_number (digits a) (digits_long a p.0)) (rw (is_number (digits b) (digits_long b q.0))
    (same (digits a) (digits b) (digits_long a p.0 ∙ sym (digits_long b q.0)) (bytes_below (digits a) (digits_all a p.0 p.1)) (bytes_below (digits b) (digits_all b q.0 q.1)) ∙ same_digits a b p.0 q.0)) in
    tied (number a) (number b) ∙ e ∙ sym (is_eq-slice_cmp a b)

-- a short name is none that is not
apart : (a b : List ℕ) (s t : Bool) → is_short a ≡ s → is_short b ≡ t → s ≡ true → t ≡ false → is_same_name a b ≡ false
apart a b s t p q i o = by (is_same_name a b) refl
  where
    by : (c : Bool) → is_same_name a b ≡ c → c ≡ false
    by false e = refl
    by true e =
        let is : a ≡ b = exact_bytes a b (equal (slice_cmp nat_cmp a b) e) in
        let r : is_short a ≡ is_short b = ap is_short is in
        absurd cc

apart_back : (a b : List ℕ) (s t : Bool) → is_short a ≡ s → is_short b ≡ t → s ≡ false → t ≡ true → is_same_name a b ≡ false
apart_back a b s t p q i o = by (is_same_name a b) refl
  where
    by : (c : Bool) → is_same_name a b ≡ c → c ≡ false
    by false e = refl
    by true e =
        let is : a ≡ b = exact_bytes a b (equal (slice_cmp nat_cmp a b) e) in
        let r : is_short a ≡ is_short b = ap is_short is in
        absurd cc

abbrev or_zero : Option ℕ → ℕ
or_zero None = 0
or_zero (Some k) = k

short_of : (b : Bool) (n k : ℕ) → cond b (Some n) None ≡ Some k → (b ≡ true) × (n ≡ k)
short_of true n k e = (refl, ap or_zero e)
short_of false n k e = absurd cc

long_of : (b : Bool) (n : ℕ) → cond b (Some n) None ≡ None → b ≡ false
long_of true n e = absurd cc
long_of false n e = refl

-- ---- what is put

pub put_short : (p r : Places) (n : List ℕ) (place k : ℕ) → number_of n ≡ Some k → ((j : ℕ) → get nat_cmp r.short j ≡ cond (is_eq (nat_cmp k j)) (Some place) (get nat_cmp p.short j)) → r.long ≡ p.long → Puts p r n (Some place)
put_short p r n place k e u l q = by (is_short q) refl
  where
    s : (is_short n ≡ true) × (number n ≡ k)
    s = short_of (is_short n) (number n) k e

    by : (b : Bool) → is_short q ≡ b → held_by r q (cond b (Some (number q)) None) ≡ cond (is_same_name n q) (Some place) (held_by p q (cond b (Some (number q)) None))
    by true t = u (number q) ∙ ap (λ (c : Bool). cond c (Some place) (get nat_cmp p.short (number q))) (ap (λ (m : ℕ). is_eq (nat_cmp m (number q))) (sym s.1) ∙ same_number n q s.0 t)
    by false t = ap (λ (m : BTreeMap (List ℕ) ℕ). get (slice_cmp nat_cmp) m q) l ∙ sym (ap (λ (c : Bool). cond c (Some place) (get (slice_cmp nat_cmp) p.long q)) (apart n q (is_short n) (is_short q) refl refl s.0 t))

pub put_long : (p r : Places) (n : List ℕ) (place : ℕ) → number_of n ≡ None → ((q : List ℕ) → get (slice_cmp nat_cmp) r.long q ≡ cond (is_eq (slice_cmp nat_cmp n q)) (Some place) (get (slice_cmp nat_cmp) p.long q)) → r.short ≡ p.short → Puts p r n (Some place)
put_long p r n place e u l q = by (is_short q) refl
  where
    s : is_short n ≡ false
    s = long_of (is_short n) (number n) e

    by : (b : Bool) → is_short q ≡ b → held_by r q (cond b (Some (number q)) None) ≡ cond (is_same_name n q) (Some place) (held_by p q (cond b (Some (number q)) None))
    by true t = ap (λ (m : BTreeMap ℕ ℕ). get nat_cmp m (number q)) l ∙ sym (ap (λ (c : Bool). cond c (Some place) (get nat_cmp p.short (number q))) (apart_back n q (is_short n) (is_short q) refl refl s t))
    by false t = u q
