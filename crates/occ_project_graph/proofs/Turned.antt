-- Graphs that are turned round.
use Rattle.std.proofs.Common.{◌≡◌, ◌∙◌, ◌+◌, ◌++◌, ℕ, zero, suc, Bool, true, false, cond, List, [], ◌∷◌, map, refl, ap, subst, inl, inr, ◌⊎◌, arith}
use Rattle.std.specs.Prelude.{◌||◌, ◌==◌}
use Rattle.std.specs.List.{filter}
use Rattle.std.proofs.lemmas.Bool.{eqb-true, eq-eqb}
use Rattle.occ_project_graph.specs.Graph.{Graph, has_edge, is_among}
use Rattle.occ_project_graph.specs.Sources.{once_each, sources, sources_from}

among_left : (us ws : List ℕ) (u : ℕ) → is_among us u ≡ true → is_among (us ++ ws) u ≡ true
among_left [] ws u h = absurd cc
among_left (x ∷ us) ws u h = by (x == u) refl h (λ k. among_left us ws u k) where
  by : (b : Bool) → (x == u) ≡ b → (b || is_among us u) ≡ true → (is_among us u ≡ true → is_among (us ++ ws) u ≡ true) → ((x == u) || is_among (us ++ ws) u) ≡ true
  by true e k rest = ap (λ (b : Bool). b || is_among (us ++ ws) u) e
  by false e k rest = ap (λ (b : Bool). b || is_among (us ++ ws) u) e ∙ rest k

among_right : (us ws : List ℕ) (u : ℕ) → is_among ws u ≡ true → is_among (us ++ ws) u ≡ true
among_right [] ws u h = h
among_right (x ∷ us) ws u h = by (x == u) (among_right us ws u h) where
  by : (b : Bool) → is_among (us ++ ws) u ≡ true → (b || is_among (us ++ ws) u) ≡ true
  by true rest = refl
  by false rest = rest

among_either : (us ws : List ℕ) (u : ℕ) → is_among (us ++ ws) u ≡ true → (is_among us u ≡ true) ⊎ (is_among ws u ≡ true)
among_either [] ws u h = inr h
among_either (x ∷ us) ws u h = by (x == u) refl h (λ k. among_either us ws u k) where
  by : (b : Bool) → (x == u) ≡ b → (b || is_among (us ++ ws) u) ≡ true → (is_among (us ++ ws) u ≡ true → (is_among us u ≡ true) ⊎ (is_among ws u ≡ true)) → (((x == u) || is_among us u) ≡ true) ⊎ (is_among ws u ≡ true)
  by true e k rest = inl (ap (λ (b : Bool). b || is_among us u) e)
  by false e k rest = elim (rest k) [
    | inl a ↦ inl (ap (λ (b : Bool). b || is_among us u) e ∙ a)
    | inr a ↦ inr a
  ]

-- it is u that stands there, and only if there is an edge
once_there : (u : ℕ) (ws : List ℕ) (v : ℕ) → is_among ws v ≡ true → is_among (once_each u ws v) u ≡ true
once_there u [] v h = absurd cc
once_there u (w ∷ ws) v h = by (w == v) h (λ k. once_there u ws v k) where
  by : (b : Bool) → (b || is_among ws v) ≡ true → (is_among ws v ≡ true → is_among (once_each u ws v) u ≡ true) → is_among (map (λ x. u) (cond b (w ∷ filter (λ w. w == v) ws) (filter (λ w. w == v) ws))) u ≡ true
  by true k rest = ap (λ (b : Bool). b || is_among (once_each u ws v) u) (eq-eqb u u refl)
  by false k rest = rest k

once_only : (u : ℕ) (ws : List ℕ) (v x : ℕ) → is_among (once_each u ws v) x ≡ true → (u ≡ x) × (is_among ws v ≡ true)
once_only u [] v x h = absurd cc
once_only u (w ∷ ws) v x h = by (w == v) refl h (λ k. once_only u ws v x k) where
  first : (b : Bool) → (u == x) ≡ b → (b || is_among (once_each u ws v) x) ≡ true → (is_among (once_each u ws v) x ≡ true → (u ≡ x) × (is_among ws v ≡ true)) → u ≡ x
  first true e k rest = eqb-true u x e
  first false e k rest = (rest k).0

  by : (b : Bool) → (w == v) ≡ b → is_among (map (λ x. u) (cond b (w ∷ filter (λ w. w == v) ws) (filter (λ w. w == v) ws))) x ≡ true → (is_among (once_each u ws v) x ≡ true → (u ≡ x) × (is_among ws v ≡ true)) → (u ≡ x) × (((w == v) || is_among ws v) ≡ true)
  by true e k rest = (first (u == x) refl k rest, ap (λ (b : Bool). b || is_among ws v) e)
  by false e k rest = ((rest k).0, ap (λ (b : Bool). b || is_among ws v) e ∙ (rest k).1)

reported_from : (n : ℕ) (g : Graph) (k v : ℕ) → has_edge g k v ≡ true → is_among (sources_from n g v) (n + k) ≡ true
reported_from n [] k v h = absurd cc
reported_from n (ws ∷ g) zero v h =
    let same : n ≡ n + 0 = omega arith in
    subst (λ (x : ℕ). is_among (sources_from n (ws ∷ g) v) x ≡ true) same (among_left (once_each n ws v) (sources_from (n + 1) g v) n (once_there n ws v h))
reported_from n (ws ∷ g) (suc k) v h =
    let same : n + 1 + k ≡ n + suc k = omega arith in
    subst (λ (x : ℕ). is_among (sources_from n (ws ∷ g) v) x ≡ true) same (among_right (once_each n ws v) (sources_from (n + 1) g v) (n + 1 + k) (reported_from (n + 1) g k v h))

only_from : (n : ℕ) (g : Graph) (u v : ℕ) → is_among (sources_from n g v) u ≡ true → (k : ℕ) × ((u ≡ n + k) × (has_edge g k v ≡ true))
only_from n [] u v h = absurd cc
only_from n (ws ∷ g) u v h = elim (among_either (once_each n ws v) (sources_from (n + 1) g v) u h) [
  | inl a ↦ let here = once_only n ws v u a in let at : n ≡ u = here.0 in (0, (omega (arith, at), here.1))
  | inr a ↦ let there = only_from (n + 1) g u v a in let at : u ≡ n + 1 + there.0 = there.1.0 in (suc there.0, (omega (arith, at), there.1.1))
]

pub reported : (g : Graph) (u v : ℕ) → has_edge g u v ≡ true → is_among (sources g v) u ≡ true
reported g u v h = let same : 0 + u ≡ u = omega arith in subst (λ (x : ℕ). is_among (sources g v) x ≡ true) same (reported_from 0 g u v h)

pub only : (g : Graph) (u v : ℕ) → is_among (sources g v) u ≡ true → has_edge g u v ≡ true
only g u v h = let there = only_from 0 g u v h in let at : u ≡ 0 + there.0 = there.1.0 in let same : there.0 ≡ u = omega (arith, at) in subst (λ (x : ℕ). has_edge g x v ≡ true) same there.1.1
