-- Who uses the unit at an index.
use Rattle.std.proofs.Common.{◌≡◌, ◌<◌, ◌||◌, ℕ, Bool, true, false, cond, not, List, [], ◌∷◌, length, refl, ap, inl, inr, arith, ◌↔◌}
use Rattle.std.specs.List.{filter}
use Rattle.std.specs.Prelude.{◌==◌}
use Rattle.std.proofs.lemmas.Bool.{cases_lt}
use Rattle.occ_project_graph.specs.Graph.{Graph, has_edge, is_among, is_circular, rests, targets}
use Rattle.occ_project_graph.specs.Sources.{sources}
use Rattle.occ_project.specs.declared.reads.Read.{Read}
use Rattle.occ_project_units.proofs.Edges.{graph_long, no_edge}
use Rattle.occ_project_units.specs.Indices.{graph_of, users_at}

edge_within : (files : List Read) (p q : ℕ) → has_edge (graph_of files) p q ≡ true → p < length files
edge_within files p q h = elim (cases_lt p (length files)) [
  | inl below ↦ below
  | inr above ↦
      let none : has_edge (graph_of files) p q ≡ false = ap (λ (ws : List ℕ). is_among ws q) (no_edge (graph_of files) p (omega (arith, graph_long files, above))) in
      absurd (cc (none, h))
]

-- what passes a test is among all
passed : (test : ℕ → Bool) (ws : List ℕ) (q : ℕ) → is_among (filter test ws) q ≡ true → is_among ws q ≡ true
passed test [] q h = h
passed test (w ∷ ws) q h = by (test w) h (λ k. passed test ws q k) where
  more : (b : Bool) → is_among ws q ≡ true → (b || is_among ws q) ≡ true
  more true k = refl
  more false k = k

  first : (b : Bool) → (b || is_among (filter test ws) q) ≡ true → (is_among (filter test ws) q ≡ true → is_among ws q ≡ true) → (b || is_among ws q) ≡ true
  first true k rest = refl
  first false k rest = rest k

  by : (b : Bool) → is_among (cond b (w ∷ filter test ws) (filter test ws)) q ≡ true → (is_among (filter test ws) q ≡ true → is_among ws q ≡ true) → is_among (w ∷ ws) q ≡ true
  by true k rest = first (w == q) k rest
  by false k rest = more (w == q) (rest k)

module _ (law : (g : Graph) (u v : ℕ) → (is_among (sources g v) u ≡ true) ↔ (has_edge g u v ≡ true)) (files : List Read) (p q : ℕ) where
  pub rest_used : is_among (rests (graph_of files) p) q ≡ true → is_among (users_at files q) p ≡ true
  rest_used h = (law (graph_of files) p q).1 (passed (λ v. not (is_circular (graph_of files) p v)) (targets (graph_of files) p) q h)

  pub user_within : is_among (users_at files q) p ≡ true → p < length files
  user_within h = edge_within files p q ((law (graph_of files) p q).0 h)
