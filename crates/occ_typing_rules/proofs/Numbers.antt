-- Numbers in order: one that comes last is put there, and one that is there is not put again.
use Rattle.std.proofs.Common.{◌≡◌, ◌∙◌, ◌<◌, ◌+◌, ℤ, ℕ, zero, suc, Bool, true, false, List, [], ◌∷◌, ◌++◌, length, take, get_or, Result, Ok, Err, IfOk, refl, sym, ap, arith}
use Rattle.std.specs.BTreeMap.{is_at}
use Rattle.std.specs.BTreeSet.{insert_key}
use Rattle.std.specs.Cmp.{int_cmp_total}
use Rattle.std.specs.List.{AllByRecursion, HoldsAt, list_any}
use Rattle.std.specs.List.Sorted.{IsSearchInRange, IsStrictlySortedBy}
use Rattle.std.specs.Result.{is_ok}
use Rattle.std.specs.Ordering.{int_cmp, is_eq, is_lt, match_ordering, ordering_reverse}
use Rattle.std.specs.Prelude.{◌||◌}
use Rattle.std.specs.declared.cmp.Ordering.{Ordering}
use Rattle.std.specs.declared.cmp.Ordering.TheVariants as ordering
use Rattle.occ_typing_rules.specs.inside.Numbers.{IsLastBelow}

has : List ℤ → ℤ → Bool
has ks n = list_any (is_at (int_cmp n)) ks

put : List ℤ → ℤ → List ℤ
put ks k = insert_key int_cmp ks k

AreBelow : List ℤ → ℤ → Type 0
AreBelow ks n = AllByRecursion (λ k. int_cmp k n ≡ ordering.Less) ks

back : (x y : ℤ) (o : Ordering) → int_cmp x y ≡ o → int_cmp y x ≡ ordering_reverse o
back x y o e = int_cmp_total.antisymm y x ∙ ap ordering_reverse e

-- ---- a number that comes last

pub none_sorted : IsStrictlySortedBy int_cmp []
unfolding IsStrictlySortedBy
none_sorted = tt

all_below : (ks : List ℤ) (n : ℤ) → IsStrictlySortedBy int_cmp ks → IsLastBelow ks n → AreBelow ks n
unfolding IsStrictlySortedBy AreBelow
all_below [] n s h = tt
all_below (x ∷ []) n s h = (h, tt)
all_below (x ∷ y ∷ ys) n s h =
    let more = all_below (y ∷ ys) n s.1 h in
    (int_cmp_total.trans x y n s.0.0 more.0, more)

pub last_of : (ks : List ℤ) (k n : ℤ) → int_cmp k n ≡ ordering.Less → IsLastBelow (ks ++ k ∷ []) n
last_of [] k n h = h
last_of (x ∷ []) k n h = h
last_of (x ∷ y ∷ ys) k n h = last_of (y ∷ ys) k n h

pub less_is : (o : Ordering) → is_lt o ≡ true → o ≡ ordering.Less
less_is ordering.Less h = refl
less_is ordering.Equal h = cc
less_is ordering.Greater h = cc

put_behind : (ks : List ℤ) (n : ℤ) → AreBelow ks n → put ks n ≡ ks ++ n ∷ []
unfolding AreBelow put
put_behind [] n h = refl
put_behind (x ∷ xs) n h =
    ap (λ (o : Ordering). match_ordering o (n ∷ x ∷ xs) (x ∷ xs) (x ∷ put xs n)) (back x n ordering.Less h.0)
    ∙ ap (λ (ys : List ℤ). x ∷ ys) (put_behind xs n h.1)

has_behind : (ks : List ℤ) (n : ℤ) → AreBelow ks n → has ks n ≡ false
unfolding AreBelow has
has_behind [] n h = refl
has_behind (x ∷ xs) n h = ap (λ (o : Ordering). is_eq o || has xs n) (back x n ordering.Less h.0) ∙ has_behind xs n h.1

all_behind : (x : ℤ) (ks : List ℤ) (n : ℤ) → AllByRecursion (λ y. int_cmp x y ≡ ordering.Less) ks → int_cmp x n ≡ ordering.Less → AllByRecursion (λ y. int_cmp x y ≡ ordering.Less) (ks ++ n ∷ [])
all_behind x [] n h e = (e, tt)
all_behind x (k ∷ ks) n h e = (h.0, all_behind x ks n h.1 e)

sorted_behind : (ks : List ℤ) (n : ℤ) → IsStrictlySortedBy int_cmp ks → AreBelow ks n → IsStrictlySortedBy int_cmp (ks ++ n ∷ [])
unfolding IsStrictlySortedBy AreBelow
sorted_behind [] n s h = (tt, tt)
sorted_behind (x ∷ xs) n s h = (all_behind x xs n s.0 h.0, sorted_behind xs n s.1 h.1)

pub put_last : (ks : List ℤ) (n : ℤ) → IsStrictlySortedBy int_cmp ks → IsLastBelow ks n → insert_key int_cmp ks n ≡ ks ++ n ∷ []
unfolding put
put_last ks n s h = put_behind ks n (all_below ks n s h)

pub has_last : (ks : List ℤ) (n : ℤ) → IsStrictlySortedBy int_cmp ks → IsLastBelow ks n → list_any (is_at (int_cmp n)) ks ≡ false
unfolding has
has_last ks n s h = has_behind ks n (all_below ks n s h)

pub sorted_last : (ks : List ℤ) (n : ℤ) → IsStrictlySortedBy int_cmp ks → IsLastBelow ks n → IsStrictlySortedBy int_cmp (ks ++ n ∷ [])
sorted_last ks n s h = sorted_behind ks n s (all_below ks n s h)

-- ---- a number that is there

later : (x : ℤ) (ks : List ℤ) → AllByRecursion (λ y. int_cmp x y ≡ ordering.Less) ks → (k : ℕ) (d : ℤ) → k < length ks → int_cmp x (get_or ks k d) ≡ ordering.Less
later x [] h k d lt = absurd (omega (arith, lt))
later x (y ∷ ks) h zero d lt = h.0
later x (y ∷ ks) h (suc k) d lt = later x ks h.1 k d (omega (arith, lt))

tied : (n k x : ℤ) → int_cmp k x ≡ ordering.Equal → int_cmp n k ≡ int_cmp n x
tied n k x e = int_cmp_total.antisymm n k ∙ ap ordering_reverse (int_cmp_total.congr k x n e) ∙ sym (int_cmp_total.antisymm n x)

put_there : (ks : List ℤ) (n : ℤ) (at : ℕ) → IsStrictlySortedBy int_cmp ks → at < length ks → HoldsAt (λ y. int_cmp y n ≡ ordering.Equal) ks at → insert_key int_cmp ks n ≡ ks
unfolding IsStrictlySortedBy
put_there [] n at s lt h = absurd (omega (arith, lt))
put_there (x ∷ xs) n zero s lt h = ap (λ (o : Ordering). match_ordering o (n ∷ x ∷ xs) (x ∷ xs) (x ∷ insert_key int_cmp xs n)) (back x n ordering.Equal (h x))
put_there (x ∷ xs) n (suc k) s lt h =
    let less : int_cmp x n ≡ ordering.Less = sym (tied x (get_or xs k x) n (h x)) ∙ later x xs s.0 k x (omega (arith, lt)) in
    ap (λ (o : Ordering). match_ordering o (n ∷ x ∷ xs) (x ∷ xs) (x ∷ insert_key int_cmp xs n)) (back x n ordering.Less less)
    ∙ ap (λ (ys : List ℤ). x ∷ ys) (put_there xs n k s.1 (omega (arith, lt)) (λ d. h d))

either_true : (a : Bool) → a || true ≡ true
either_true true = refl
either_true false = refl

has_there : (ks : List ℤ) (n : ℤ) (at : ℕ) → at < length ks → HoldsAt (λ y. int_cmp y n ≡ ordering.Equal) ks at → list_any (is_at (int_cmp n)) ks ≡ true
has_there [] n at lt h = absurd (omega (arith, lt))
has_there (x ∷ xs) n zero lt h = ap (λ (o : Ordering). is_eq o || list_any (is_at (int_cmp n)) xs) (back x n ordering.Equal (h x))
has_there (x ∷ xs) n (suc k) lt h = ap (λ (b : Bool). is_eq (int_cmp n x) || b) (has_there xs n k (omega (arith, lt)) (λ d. h d)) ∙ either_true (is_eq (int_cmp n x))

-- ---- a number that a search found

pub put_found : (ks : List ℤ) (n : ℤ) (r : Result ℕ ℕ) → IsStrictlySortedBy int_cmp ks → IsSearchInRange r (length ks) → IfOk r (HoldsAt (λ y. int_cmp y n ≡ ordering.Equal) ks) → is_ok r ≡ true → insert_key int_cmp ks n ≡ ks
put_found ks n (Ok at) s within h e = put_there ks n at s within h
put_found ks n (Err at) s within h e = cc

pub has_found : (ks : List ℤ) (n : ℤ) (r : Result ℕ ℕ) → IsSearchInRange r (length ks) → IfOk r (HoldsAt (λ y. int_cmp y n ≡ ordering.Equal) ks) → is_ok r ≡ true → list_any (is_at (int_cmp n)) ks ≡ true
has_found ks n (Ok at) within h e = has_there ks n at within h
has_found ks n (Err at) within h e = cc

-- ---- one more of the numbers of a list

taken : (x : ℤ) (xs : List ℤ) (i : ℕ) → x ∷ take (i + 1) xs ≡ take (suc i + 1) (x ∷ xs)
taken x xs i = let e : suc (i + 1) ≡ suc i + 1 = omega arith in ap (λ (k : ℕ). take k (x ∷ xs)) e

pub put_taken : (ks : List ℤ) (i : ℕ) (d : ℤ) → IsStrictlySortedBy int_cmp ks → i < length ks → insert_key int_cmp (take i ks) (get_or ks i d) ≡ take (i + 1) ks
unfolding IsStrictlySortedBy
put_taken [] i d s lt = absurd (omega (arith, lt))
put_taken (x ∷ xs) zero d s lt = refl
put_taken (x ∷ xs) (suc i) d s lt =
    let less = later x xs s.0 i d (omega (arith, lt)) in
    ap (λ (o : Ordering). match_ordering o (get_or xs i d ∷ x ∷ take i xs) (x ∷ take i xs) (x ∷ insert_key int_cmp (take i xs) (get_or xs i d))) (back x (get_or xs i d) ordering.Less less)
    ∙ ap (λ (ys : List ℤ). x ∷ ys) (put_taken xs i d s.1 (omega (arith, lt)))
    ∙ taken x xs i

pub ruleset number_rules = (none_sorted, last_of, less_is, put_last, has_last, sorted_last, put_found, has_found, put_taken)
