-- Ways through a graph.
use Rattle.std.proofs.Common.{◌≡◌, ◌<◌, ℕ, zero, suc, List, [], ◌∷◌, ◌++◌, length, get_or, inl, inr, refl, sym, ap, subst, arith}
use Rattle.std.specs.Prelude.{Bool, true, false, ◌&&◌, ◌||◌, ◌==◌, ◌⊎◌, ◌↔◌}
use Rattle.std.specs.List.{list_any}
use Rattle.std.proofs.lemmas.Bool.{eqb-true, eq-eqb}
use Rattle.occ_project_graph.specs.Graph.{Graph, IsCircular, Path, Reaches, has_edge, is_circular, reaches, reaches_below}

pub either : (a b : Bool) → (a || b) ≡ true → (a ≡ true) ⊎ (b ≡ true)
either true b h = inl refl
either false b h = inr h

pub first_holds : (a b : Bool) → a ≡ true → (a || b) ≡ true
first_holds true b h = refl
first_holds false b h = absurd (cc)

pub second_holds : (a b : Bool) → b ≡ true → (a || b) ≡ true
second_holds true b h = refl
second_holds false b h = h

pub both_of : (a b : Bool) → (a && b) ≡ true → (a ≡ true) × (b ≡ true)
both_of true b h = (refl, h)
both_of false b h = absurd (cc)

pub both : (a b : Bool) → a ≡ true → b ≡ true → (a && b) ≡ true
both true b h k = k
both false b h k = absurd (cc)

pub same_truth : (a b : Bool) → (a ≡ true → b ≡ true) → (b ≡ true → a ≡ true) → a ≡ b
same_truth true true h k = refl
same_truth true false h k = sym (h refl)
same_truth false true h k = k refl
same_truth false false h k = refl

-- a way through nodes below n + 1 goes through nodes below n, or to n and on from there
pub ways : (g : Graph) (n u v : ℕ) → reaches_below g (suc n) u v ≡ true → (reaches_below g n u v ≡ true) ⊎ ((reaches_below g n u n ≡ true) × (reaches_below g n n v ≡ true))
ways g n u v h = elim (either (reaches_below g n u v) (reaches_below g n u n && reaches_below g n n v) h) [
  | inl k ↦ inl k
  | inr k ↦ inr (both_of (reaches_below g n u n) (reaches_below g n n v) k)
]

pub goes_on : (g : Graph) (n u v : ℕ) → reaches_below g n u v ≡ true → reaches_below g (suc n) u v ≡ true
goes_on g n u v h = first_holds (reaches_below g n u v) (reaches_below g n u n && reaches_below g n n v) h

pub by_way : (g : Graph) (n u v : ℕ) → reaches_below g n u n ≡ true → reaches_below g n n v ≡ true → reaches_below g (suc n) u v ≡ true
by_way g n u v h k = second_holds (reaches_below g n u v) (reaches_below g n u n && reaches_below g n n v) (both (reaches_below g n u n) (reaches_below g n n v) h k)

-- to n and from n no way through n is needed
to_node : (g : Graph) (n u : ℕ) → reaches_below g (suc n) u n ≡ true → reaches_below g n u n ≡ true
to_node g n u h = elim (ways g n u n h) [
  | inl k ↦ k
  | inr k ↦ k.0
]

from_node : (g : Graph) (n v : ℕ) → reaches_below g (suc n) n v ≡ true → reaches_below g n n v ≡ true
from_node g n v h = elim (ways g n n v h) [
  | inl k ↦ k
  | inr k ↦ k.1
]

last_or_less : (n m : ℕ) → m < suc n → (m ≡ n) ⊎ (m < n)
last_or_less zero zero h = inl refl
last_or_less zero (suc m) h = absurd (omega arith)
last_or_less (suc n) zero h = inr (omega arith)
last_or_less (suc n) (suc m) h = elim (last_or_less n m (omega arith)) [
  | inl e ↦ inl (ap suc e)
  | inr k ↦ inr (omega arith)
]

pub joined : (g : Graph) (n m u v : ℕ) → m < n → reaches_below g n u m ≡ true → reaches_below g n m v ≡ true → reaches_below g n u v ≡ true
joined g zero m u v l h k = absurd (omega arith)
joined g (suc n) m u v l h k = elim (last_or_less n m l) [
  | inl e ↦ by_way g n u v (to_node g n u (subst (λ (x : ℕ). reaches_below g (suc n) u x ≡ true) e h)) (from_node g n v (subst (λ (x : ℕ). reaches_below g (suc n) x v ≡ true) e k))
  | inr s ↦ elim (ways g n u m h) [
    | inl um ↦ elim (ways g n m v k) [
      | inl mv ↦ goes_on g n u v (joined g n m u v s um mv)
      | inr b ↦ by_way g n u v (joined g n m u n s um b.0) b.1
    ]
    | inr c ↦ elim (ways g n m v k) [
      | inl mv ↦ by_way g n u v c.0 (joined g n m n v s c.1 mv)
      | inr b ↦ by_way g n u v c.0 b.1
    ]
  ]
]

pub edge_reaches : (g : Graph) (n u v : ℕ) → has_edge g u v ≡ true → reaches_below g n u v ≡ true
edge_reaches g zero u v h = h
edge_reaches g (suc n) u v h = goes_on g n u v (edge_reaches g n u v h)

-- what an edge leads from is a node
get_below : (g : Graph) (u v : ℕ) → list_any (λ w. w == v) (get_or g u []) ≡ true → u < length g
get_below [] u v h = absurd (cc)
get_below (x ∷ xs) zero v h = omega arith
get_below (x ∷ xs) (suc u) v h = let k = get_below xs u v h in omega arith

pub edge_below : (g : Graph) (u v : ℕ) → has_edge g u v ≡ true → u < length g
edge_below g u v h = get_below g u v h

pub reaches_from_node : (g : Graph) (n u v : ℕ) → reaches_below g n u v ≡ true → u < length g
reaches_from_node g zero u v h = edge_below g u v h
reaches_from_node g (suc n) u v h = elim (ways g n u v h) [
  | inl k ↦ reaches_from_node g n u v k
  | inr k ↦ reaches_from_node g n u n k.0
]

-- a node reaches what is reached by one that it reaches
pub reaches_on : (g : Graph) (u m v : ℕ) → reaches g u m ≡ true → reaches g m v ≡ true → reaches g u v ≡ true
reaches_on g u m v h k = joined g (length g) m u v (reaches_from_node g (length g) m v k) h k

pub path_reaches : (g : Graph) (ws : List ℕ) (u v : ℕ) → Path g u ws v → reaches g u v ≡ true
path_reaches g [] u v p = edge_reaches g (length g) u v p
path_reaches g (w ∷ ws) u v p = reaches_on g u w v (edge_reaches g (length g) u w p.0) (path_reaches g ws w v p.1)

path_on : (g : Graph) (us ws : List ℕ) (u m v : ℕ) → Path g u us m → Path g m ws v → Path g u (us ++ m ∷ ws) v
path_on g [] ws u m v p q = (p, q)
path_on g (x ∷ xs) ws u m v p q = (p.0, path_on g xs ws x m v p.1 q)

pub reaches_path : (g : Graph) (n u v : ℕ) → reaches_below g n u v ≡ true → Reaches g u v
reaches_path g zero u v h = ([], h)
reaches_path g (suc n) u v h = elim (ways g n u v h) [
  | inl k ↦ reaches_path g n u v k
  | inr k ↦ let p = reaches_path g n u n k.0 in let q = reaches_path g n n v k.1 in (p.0 ++ n ∷ q.0, path_on g p.0 q.0 u n v p.1 q.1)
]

pub way : (g : Graph) (u v : ℕ) → (reaches g u v ≡ true) ↔ Reaches g u v
way g u v = (λ h. reaches_path g (length g) u v h, λ r. path_reaches g r.0 u v r.1)

pub circle : (g : Graph) (u v : ℕ) → (is_circular g u v ≡ true) ↔ IsCircular g u v
circle g u v = (
  λ h. elim (either (u == v) (reaches g v u) h) [
    | inl e ↦ inl (eqb-true u v e)
    | inr k ↦ inr (reaches_path g (length g) v u k)
  ],
  λ c. elim c [
    | inl e ↦ first_holds (u == v) (reaches g v u) (eq-eqb u v e)
    | inr r ↦ second_holds (u == v) (reaches g v u) (path_reaches g r.0 v u r.1)
  ],
)
