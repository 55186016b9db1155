-- Items put at their places, each once: which are there, and that the same items give one list.
use Rattle.std.proofs.Common.{◌≡◌, zero, suc, List, [], ◌∷◌, ◌⊎◌, inl, inr, refl, ap, sym, subst, ◌∙◌, arith}
use Rattle.std.specs.BTreeSet.{insert_key}
use Rattle.std.specs.Cmp.{IsTotalOrder}
use Rattle.std.specs.List.{AllByRecursion, Contains}
use Rattle.std.specs.List.Sorted.{IsStrictlySortedBy}
use Rattle.std.specs.Ordering.{match_ordering, ordering_reverse}
use Rattle.std.specs.declared.cmp.Ordering.{Ordering}
use Rattle.std.specs.declared.cmp.Ordering.TheVariants.{Less, Equal, Greater}

-- one of a list, by recursion
abbrev pub Among : {X : Type 0} → X → List X → Type 0
Among x [] = ⊥
Among x (y ∷ ys) = (y ≡ x) ⊎ Among x ys

pub from_contains : {X : Type 0} (xs : List X) (x : X) → Contains xs x → Among x xs
from_contains [] x (k, h, e) = absurd (omega arith)
from_contains (y ∷ ys) x (zero, h, e) = inl e
from_contains (y ∷ ys) x (suc k, h, e) = inr (from_contains ys x (k, omega arith, e))

pub into_contains : {X : Type 0} (xs : List X) (x : X) → Among x xs → Contains xs x
into_contains [] x h = absurd h
into_contains (y ∷ ys) x (inl e) = (0, omega arith, e)
into_contains (y ∷ ys) x (inr h) = let r = into_contains ys x h in (suc r.0, omega (arith, r.1), r.2)

pub of_all : {X : Type 0} (P : X → Type 0) (xs : List X) (x : X) → AllByRecursion P xs → Among x xs → P x
of_all P [] x a h = absurd h
of_all P (y ∷ ys) x a (inl e) = subst P e a.0
of_all P (y ∷ ys) x a (inr h) = of_all P ys x a.1 h

module _ {X : Type 0} (cmp : X → X → Ordering) where
  -- nothing else has the same place
  abbrev pub IsAlone : X → Type 0
  IsAlone k = (x : X) → cmp k x ≡ Equal → k ≡ x

  from_by : (k x : X) (xs : List X) (o : Ordering) (z : X) → (Among z (insert_key cmp xs k) → (k ≡ z) ⊎ Among z xs)
      → Among z (match_ordering o (k ∷ x ∷ xs) (x ∷ xs) (x ∷ insert_key cmp xs k)) → (k ≡ z) ⊎ Among z (x ∷ xs)
  from_by k x xs Less z f (inl e) = inl e
  from_by k x xs Less z f (inr h) = inr h
  from_by k x xs Equal z f h = inr h
  from_by k x xs Greater z f (inl e) = inr (inl e)
  from_by k x xs Greater z f (inr h) = elim (f h) [ inl e ↦ inl e | inr g ↦ inr (inr g) ]

  pub from_insert : (xs : List X) (k z : X) → Among z (insert_key cmp xs k) → (k ≡ z) ⊎ Among z xs
  from_insert [] k z h = h
  from_insert (x ∷ xs) k z h = from_by k x xs (cmp k x) z (from_insert xs k z) h

  new_by : (k x : X) (xs : List X) (o : Ordering) → IsAlone k → cmp k x ≡ o → Among k (insert_key cmp xs k)
      → Among k (match_ordering o (k ∷ x ∷ xs) (x ∷ xs) (x ∷ insert_key cmp xs k))
  new_by k x xs Less alone e h = inl refl
  new_by k x xs Equal alone e h = inl (sym (alone x e))
  new_by k x xs Greater alone e h = inr h

  pub new_insert : (xs : List X) (k : X) → IsAlone k → Among k (insert_key cmp xs k)
  new_insert [] k alone = inl refl
  new_insert (x ∷ xs) k alone = new_by k x xs (cmp k x) alone refl (new_insert xs k alone)

  old_by : (k x : X) (xs : List X) (o : Ordering) (z : X) → (Among z xs → Among z (insert_key cmp xs k)) → Among z (x ∷ xs)
      → Among z (match_ordering o (k ∷ x ∷ xs) (x ∷ xs) (x ∷ insert_key cmp xs k))
  old_by k x xs Less z f h = inr h
  old_by k x xs Equal z f h = h
  old_by k x xs Greater z f (inl e) = inl e
  old_by k x xs Greater z f (inr h) = inr (f h)

  pub old_insert : (xs : List X) (k z : X) → Among z xs → Among z (insert_key cmp xs k)
  old_insert [] k z h = absurd h
  old_insert (x ∷ xs) k z h = old_by k x xs (cmp k x) z (old_insert xs k z) h

  pub placed_from : (place : List X → List X) → place [] ≡ [] → ((x : X) (xs : List X) → place (x ∷ xs) ≡ insert_key cmp (place xs) x)
      → (xs : List X) (z : X) → Among z (place xs) → Among z xs
  placed_from place none more [] z h = subst (Among z) none h
  placed_from place none more (x ∷ xs) z h = elim (from_insert (place xs) x z (subst (Among z) (more x xs) h)) [
    | inl e ↦ inl e
    | inr g ↦ inr (placed_from place none more xs z g)
  ]

  pub placed_into : (place : List X → List X) → ((x : X) (xs : List X) → place (x ∷ xs) ≡ insert_key cmp (place xs) x)
      → (xs : List X) (z : X) → IsAlone z → Among z xs → Among z (place xs)
  placed_into place more [] z alone h = absurd h
  placed_into place more (x ∷ xs) z alone (inl e) = subst (Among z) (sym (more x xs)) (subst (λ y. Among z (insert_key cmp (place xs) y)) (sym e) (new_insert (place xs) z alone))
  placed_into place more (x ∷ xs) z alone (inr h) = subst (Among z) (sym (more x xs)) (old_insert (place xs) x z (placed_into place more xs z alone h))

module _ {X : Type 0} (cmp : X → X → Ordering) (total : IsTotalOrder cmp) where
  not_below_itself : (x y : X) → y ≡ x → cmp x y ≡ Less → ⊥
  not_below_itself x y e h =
      let own : cmp x x ≡ Less = subst (λ z. cmp x z ≡ Less) e h in
      let back : cmp x x ≡ ordering_reverse (cmp x x) = total.antisymm x x in
      let turned : ordering_reverse (cmp x x) ≡ Greater = ap ordering_reverse own in
      cc

  not_both : (x y : X) → cmp x y ≡ Less → cmp y x ≡ Less → ⊥
  not_both x y e h =
      let back : cmp x y ≡ ordering_reverse (cmp y x) = total.antisymm x y in
      let turned : ordering_reverse (cmp y x) ≡ Greater = ap ordering_reverse h in
      cc

  -- the first of each list is the first of the other
  first_same : (x y : X) (xs ys : List X) → AllByRecursion (λ z. cmp x z ≡ Less) xs → AllByRecursion (λ z. cmp y z ≡ Less) ys
      → Among x (y ∷ ys) → Among y (x ∷ xs) → x ≡ y
  first_same x y xs ys a b (inl e) there = sym e
  first_same x y xs ys a b (inr h) (inl e) = e
  first_same x y xs ys a b (inr h) (inr g) = absurd (not_both x y (of_all _ xs y a g) (of_all _ ys x b h))

  rest_of : (x y : X) (xs ys : List X) → x ≡ y → AllByRecursion (λ z. cmp x z ≡ Less) xs → ((z : X) → Among z (x ∷ xs) → Among z (y ∷ ys))
      → (z : X) → Among z xs → Among z ys
  rest_of x y xs ys e a f z h = elim (f z (inr h)) [
    | inl g ↦ absurd (not_below_itself x z (sym (e ∙ g)) (of_all _ xs z a h))
    | inr g ↦ g
  ]

  pub one_list : (xs ys : List X) → IsStrictlySortedBy cmp xs → IsStrictlySortedBy cmp ys → ((z : X) → Among z xs → Among z ys) → ((z : X) → Among z ys → Among z xs) → xs ≡ ys
  unfolding IsStrictlySortedBy
  one_list [] [] a b f g = refl
  one_list [] (y ∷ ys) a b f g = absurd (g y (inl refl))
  one_list (x ∷ xs) [] a b f g = absurd (f x (inl refl))
  one_list (x ∷ xs) (y ∷ ys) a b f g =
      let e : x ≡ y = first_same x y xs ys a.0 b.0 (f x (inl refl)) (g y (inl refl)) in
      let r : xs ≡ ys = one_list xs ys a.1 b.1 (rest_of x y xs ys e a.0 f) (rest_of y x ys xs (sym e) b.0 g) in
      cc
