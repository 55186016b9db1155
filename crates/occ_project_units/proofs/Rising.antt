-- Names in their order.
use Rattle.std.proofs.Common.{◌≡◌, ℕ, true, List, [], ◌∷◌, refl, sym, ap, ◌∙◌}
use Rattle.std.specs.BTreeSet.{insert_key}
use Rattle.std.specs.Cmp.{IsTotalOrder}
use Rattle.std.specs.Cmp.Lexicographic.{same_text}
use Rattle.std.specs.List.{AllByRecursion}
use Rattle.std.specs.List.Sorted.{IsStrictlySortedBy}
use Rattle.std.specs.Ordering.{is_eq, match_ordering, ordering_reverse}
use Rattle.std.specs.Str.{bytes_eq}
use Rattle.std.specs.declared.cmp.Ordering.{Ordering}
use Rattle.std.specs.declared.cmp.Ordering.TheVariants.{Less, Equal, Greater}
use Rattle.std.proofs.lemmas.Cmp.{nat_list_cmp_total}
use Rattle.std.proofs.lemmas.Map.Text.{is_eq-slice_cmp}
use Rattle.occ_project.specs.Reads.{name_cmp}

total : IsTotalOrder name_cmp
total = nat_list_cmp_total

-- where the order finds no difference the names are the same
pub equal_test : (a b : List ℕ) → name_cmp a b ≡ Equal → bytes_eq a b ≡ true
equal_test a b e = sym (is_eq-slice_cmp a b) ∙ ap is_eq e

pub equal_names : (a b : List ℕ) → name_cmp a b ≡ Equal → a ≡ b
equal_names a b e = same_text a b (sym (equal_test a b e))

is_equal : (o : Ordering) → is_eq o ≡ true → o ≡ Equal
is_equal Less h = cc
is_equal Equal h = refl
is_equal Greater h = cc

pub test_equal : (a b : List ℕ) → bytes_eq a b ≡ true → name_cmp a b ≡ Equal
test_equal a b e = is_equal (name_cmp a b) (is_eq-slice_cmp a b ∙ e)

-- the other way round
pub turned : (a b : List ℕ) (o : Ordering) → name_cmp a b ≡ o → name_cmp b a ≡ ordering_reverse o
turned a b o e = total.antisymm b a ∙ ap ordering_reverse e

pub less_joined : (a b c : List ℕ) → name_cmp a b ≡ Less → name_cmp b c ≡ Less → name_cmp a c ≡ Less
less_joined = total.trans

-- names that the order distinguishes have other bytes
pub apart : (a b : List ℕ) (o : Ordering) → name_cmp a b ≡ o → bytes_eq a b ≡ is_eq o
apart a b o e = sym (is_eq-slice_cmp a b) ∙ ap is_eq e

pub all_more : (P Q : List ℕ → Type 0) (names : List (List ℕ)) → ((name : List ℕ) → P name → Q name) → AllByRecursion P names → AllByRecursion Q names
all_more P Q [] f h = tt
all_more P Q (name ∷ names) f h = (f name h.0, all_more P Q names f h.1)

all_by : (P : List ℕ → Type 0) (k x : List ℕ) (xs : List (List ℕ)) (o : Ordering) → P k → P x → AllByRecursion P xs → AllByRecursion P (insert_key name_cmp xs k)
    → AllByRecursion P (match_ordering o (k ∷ x ∷ xs) (x ∷ xs) (x ∷ insert_key name_cmp xs k))
all_by P k x xs Less p q h i = (p, (q, h))
all_by P k x xs Equal p q h i = (q, h)
all_by P k x xs Greater p q h i = (q, i)

all_insert : (P : List ℕ → Type 0) (names : List (List ℕ)) (k : List ℕ) → P k → AllByRecursion P names → AllByRecursion P (insert_key name_cmp names k)
all_insert P [] k p h = (p, tt)
all_insert P (x ∷ xs) k p h = all_by P k x xs (name_cmp k x) p h.0 h.1 (all_insert P xs k p h.1)

rising_by : (k x : List ℕ) (xs : List (List ℕ)) (o : Ordering) → name_cmp k x ≡ o → IsStrictlySortedBy name_cmp (x ∷ xs) → IsStrictlySortedBy name_cmp (insert_key name_cmp xs k)
    → IsStrictlySortedBy name_cmp (match_ordering o (k ∷ x ∷ xs) (x ∷ xs) (x ∷ insert_key name_cmp xs k))
unfolding IsStrictlySortedBy
rising_by k x xs Less e h i = ((e, all_more (λ y. name_cmp x y ≡ Less) (λ y. name_cmp k y ≡ Less) xs (λ y l. less_joined k x y e l) h.0), h)
rising_by k x xs Equal e h i = h
rising_by k x xs Greater e h i = (all_insert (λ y. name_cmp x y ≡ Less) xs k (turned k x Greater e) h.0, i)

-- a name that comes to its place leaves the order
pub insert_rising : (names : List (List ℕ)) (k : List ℕ) → IsStrictlySortedBy name_cmp names → IsStrictlySortedBy name_cmp (insert_key name_cmp names k)
unfolding IsStrictlySortedBy
insert_rising [] k h = (tt, tt)
insert_rising (x ∷ xs) k h = rising_by k x xs (name_cmp k x) refl h (insert_rising xs k h.1)
