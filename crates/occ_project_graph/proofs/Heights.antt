-- How many nodes a node is or reaches: fewer where it is one that another rests on.
use Rattle.std.proofs.Common.{◌≡◌, ◌<◌, ◌≤◌, ◌+◌, ℕ, zero, suc, List, [], ◌∷◌, length, inl, inr, refl, sym, ap, ◌∙◌, subst, arith}
use Rattle.std.specs.Prelude.{Bool, true, false, not, cond, ◌||◌, ◌==◌, ◌⊎◌}
use Rattle.std.specs.List.{filter, list_any}
use Rattle.std.proofs.lemmas.Bool.{eqb-true, eq-eqb}
use Rattle.occ_project_graph.specs.Graph.{Graph, has_edge, is_among, is_circular, reaches, rests, targets}
use Rattle.occ_project_graph.proofs.Ways.{edge_below, edge_reaches, either, first_holds, second_holds, reaches_on}

-- how many of the numbers below n pass
abbrev pub number : (ℕ → Bool) → ℕ → ℕ
number p zero = 0
number p (suc n) = cond (p n) 1 0 + number p n

abbrev pub is_or_reaches : Graph → ℕ → ℕ → Bool
is_or_reaches g u w = (u == w) || reaches g u w

abbrev pub height : Graph → ℕ → ℕ
height g u = number (is_or_reaches g u) (length g)

one_le : (a b : Bool) → (a ≡ true → b ≡ true) → cond a 1 0 ≤ cond b 1 0
one_le true true h = omega arith
one_le true false h = let k = h refl in absurd (cc)
one_le false true h = omega arith
one_le false false h = omega arith

one_lt : (a b : Bool) → a ≡ false → b ≡ true → cond a 1 0 < cond b 1 0
one_lt true b e f = absurd (cc)
one_lt false true e f = omega arith
one_lt false false e f = absurd (cc)

number_le : (p q : ℕ → Bool) (n : ℕ) → ((w : ℕ) → p w ≡ true → q w ≡ true) → number p n ≤ number q n
number_le p q zero h = omega arith
number_le p q (suc n) h = let a = number_le p q n h in let b = one_le (p n) (q n) (h n) in omega arith

last_or_less : (n m : ℕ) → m < suc n → (m ≡ n) ⊎ (m < n)
last_or_less zero zero h = inl refl
last_or_less zero (suc m) h = absurd (omega arith)
last_or_less (suc n) zero h = inr (omega arith)
last_or_less (suc n) (suc m) h = elim (last_or_less n m (omega arith)) [
  | inl e ↦ inl (ap suc e)
  | inr k ↦ inr (omega arith)
]

number_lt : (p q : ℕ → Bool) (n m : ℕ) → ((w : ℕ) → p w ≡ true → q w ≡ true) → m < n → p m ≡ false → q m ≡ true → number p n < number q n
number_lt p q zero m h l a b = absurd (omega arith)
number_lt p q (suc n) m h l a b = elim (last_or_less n m l) [
  | inl e ↦ let s = one_lt (p n) (q n) (subst (λ (x : ℕ). p x ≡ false) e a) (subst (λ (x : ℕ). q x ≡ true) e b) in let k = number_le p q n h in omega arith
  | inr s ↦ let k = number_lt p q n m h s a b in let o = one_le (p n) (q n) (h n) in omega arith
]

number_most : (p : ℕ → Bool) (n : ℕ) → number p n ≤ n
number_most p zero = omega arith
number_most p (suc n) = let k = number_most p n in let o = one_le (p n) true (λ e. refl) in omega arith

pub height_most : (g : Graph) (u : ℕ) → height g u ≤ length g
height_most g u = number_most (is_or_reaches g u) (length g)

-- what is among those that a node rests on has an edge from it that stands in no circle
among_kept : (p : ℕ → Bool) (v : ℕ) (xs : List ℕ) → list_any (λ w. w == v) (filter p xs) ≡ true → (list_any (λ w. w == v) xs ≡ true) × (p v ≡ true)
among_kept p v [] h = absurd (cc)
among_kept p v (x ∷ xs) h = by (p x) refl (among_kept p v xs) h where
  by : (b : Bool) → p x ≡ b → (list_any (λ w. w == v) (filter p xs) ≡ true → (list_any (λ w. w == v) xs ≡ true) × (p v ≡ true)) → list_any (λ w. w == v) (cond b (x ∷ filter p xs) (filter p xs)) ≡ true → (list_any (λ w. w == v) (x ∷ xs) ≡ true) × (p v ≡ true)
  by true e kept k = elim (either (x == v) (list_any (λ w. w == v) (filter p xs)) k) [
    | inl f ↦ (first_holds (x == v) (list_any (λ w. w == v) xs) f, subst (λ (y : ℕ). p y ≡ true) (eqb-true x v f) e)
    | inr f ↦ let r = kept f in (second_holds (x == v) (list_any (λ w. w == v) xs) r.0, r.1)
  ]
  by false e kept k = let r = kept k in (second_holds (x == v) (list_any (λ w. w == v) xs) r.0, r.1)

not_true : (b : Bool) → not b ≡ true → b ≡ false
not_true true h = absurd (cc)
not_true false h = refl

pub rest_is : (g : Graph) (u v : ℕ) → is_among (rests g u) v ≡ true → (has_edge g u v ≡ true) × (is_circular g u v ≡ false)
rest_is g u v h = let r = among_kept (λ w. not (is_circular g u w)) v (targets g u) h in (r.0, not_true (is_circular g u v) r.1)

neither : (a b : Bool) → (a || b) ≡ false → (a ≡ false) × (b ≡ false)
neither true b h = absurd (cc)
neither false b h = (refl, h)

other_way : (u v : ℕ) → (u == v) ≡ false → (v == u) ≡ false
other_way u v h = by (v == u) refl where
  by : (b : Bool) → (v == u) ≡ b → b ≡ false
  by true e = let f : (u == v) ≡ true = eq-eqb u v (sym (eqb-true v u e)) in absurd (cc (f, h))
  by false e = refl

-- what a node reaches that is or is reached by one to which an edge leads from it
below_it : (g : Graph) (u v w : ℕ) → has_edge g u v ≡ true → is_or_reaches g v w ≡ true → is_or_reaches g u w ≡ true
below_it g u v w e h = second_holds (u == w) (reaches g u w) (elim (either (v == w) (reaches g v w) h) [
  | inl f ↦ subst (λ (x : ℕ). reaches g u x ≡ true) (eqb-true v w f) (edge_reaches g (length g) u v e)
  | inr f ↦ reaches_on g u v w (edge_reaches g (length g) u v e) f
])

pub falls : (g : Graph) (u v : ℕ) → is_among (rests g u) v ≡ true → height g v < height g u
falls g u v h =
    let r = rest_is g u v h in
    let n = neither (u == v) (reaches g v u) r.1 in
    let here : is_or_reaches g u u ≡ true = first_holds (u == u) (reaches g u u) (eq-eqb u u refl) in
    let gone : is_or_reaches g v u ≡ false = ap (λ (b : Bool). b || reaches g v u) (other_way u v n.0) ∙ n.1 in
    number_lt (is_or_reaches g v) (is_or_reaches g u) (length g) u (λ w k. below_it g u v w r.0 k) (edge_below g u v r.0) gone here
