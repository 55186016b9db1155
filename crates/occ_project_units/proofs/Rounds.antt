-- Circles by names are circles by indices.
use Rattle.std.proofs.Common.{◌≡◌, ◌↔◌, ℕ, true, false, Bool, ◌&&◌, ◌⊎◌, List, [], ◌∷◌, Option, Some, None, refl, ap, subst, ◌∙◌, inl, inr}
use Rattle.occ_project_graph.specs.Graph.{Graph, Path, has_edge}
use Rattle.occ_project_graph.specs.Graph as graph
use Rattle.occ_project.specs.declared.reads.Read.{Read}
use Rattle.occ_project.specs.Entries.{is_among}
use Rattle.occ_project.specs.Reads.{index}
use Rattle.occ_project_units.specs.Indices.{circular_at, graph_of, is_circular}
use Rattle.occ_project_units.specs.Units.{IsCircular, Reaches, Uses, UsesBy, used_units}
use Rattle.occ_project_units.proofs.Edges.{edge, placed_user, same_index, used_by_edge}

module _ (files : List Read) where
  -- what leads from unit to unit, by indices
  first_use : (u : List ℕ) (ws : List (List ℕ)) (v : List ℕ) → UsesBy files u ws v → (w : List ℕ) × Uses files u w
  first_use u [] v h = (v, h)
  first_use u (w ∷ ws) v h = (w, h.0)

  to_indices : (u : List ℕ) (ws : List (List ℕ)) (v : List ℕ) (p q : ℕ) → index u files ≡ Some p → index v files ≡ Some q → UsesBy files u ws v → graph.Reaches (graph_of files) p q
  to_indices u [] v p q e f h = ([], edge files u v p q e f h)
  to_indices u (w ∷ ws) v p q e f h =
      let first = first_use w ws v h.1 in
      let at = placed_user files w first.0 first.1 in
      let rest = to_indices w ws v at.0 q at.1 f h.1 in
      (at.0 ∷ rest.0, (edge files u w p at.0 e at.1 h.0, rest.1))

  -- and back
  from_indices : (u v : List ℕ) (p : ℕ) (ps : List ℕ) (q : ℕ) → index u files ≡ Some p → index v files ≡ Some q → Path (graph_of files) p ps q → Reaches files u v
  from_indices u v p [] q e f h =
      let used = used_by_edge files u p q e h in
      ([], subst (Uses files u) (same_index files used.0 v q used.2 f) used.1)
  from_indices u v p (r ∷ ps) q e f h =
      let used = used_by_edge files u p r e h.0 in
      let rest = from_indices used.0 v r ps q used.2 f h.1 in
      (used.0 ∷ rest.0, (used.1, rest.1))

  module _ (circles : (g : Graph) (p q : ℕ) → (graph.is_circular g p q ≡ true) ↔ graph.IsCircular g p q) where
    by_indices : (u v : List ℕ) (p q : ℕ) → index u files ≡ Some p → index v files ≡ Some q → graph.IsCircular (graph_of files) p q → (v ≡ u) ⊎ Reaches files v u
    by_indices u v p q e f (inl s) = inl (same_index files v u q f (e ∙ ap Some s))
    by_indices u v p q e f (inr way) = inr (from_indices v u q way.0 p f e way.1)

    both_true : (b c : Bool) → (b && c) ≡ true → (b ≡ true) × (c ≡ true)
    both_true true c h = (refl, h)
    both_true false c h = cc

    join_true : (b c : Bool) → b ≡ true → c ≡ true → (b && c) ≡ true
    join_true true c h k = k
    join_true false c h k = cc

    tested : (u v : List ℕ) → is_circular files u v ≡ true → IsCircular files u v
    tested u v h =
        let parts = both_true (is_among (used_units files u) v) (circular_at (graph_of files) (index u files) (index v files)) h in
        (parts.0, by (index u files) (index v files) refl refl parts.1)
      where
        by : (o p : Option ℕ) → index u files ≡ o → index v files ≡ p → circular_at (graph_of files) o p ≡ true → (v ≡ u) ⊎ Reaches files v u
        by (Some p) (Some q) e f k = by_indices u v p q e f ((circles (graph_of files) p q).0 k)
        by (Some p) None e f k = cc
        by None (Some q) e f k = cc
        by None None e f k = cc

    at_indices : (u v : List ℕ) (p q : ℕ) → index u files ≡ Some p → index v files ≡ Some q → graph.is_circular (graph_of files) p q ≡ true → circular_at (graph_of files) (index u files) (index v files) ≡ true
    at_indices u v p q e f h = ap (λ (o : Option ℕ). circular_at (graph_of files) o (index v files)) e ∙ ap (circular_at (graph_of files) (Some p)) f ∙ h

    stands : (u v : List ℕ) → IsCircular files u v → is_circular files u v ≡ true
    stands u v h =
        let at = placed_user files u v h.0 in
        join_true (is_among (used_units files u) v) (circular_at (graph_of files) (index u files) (index v files)) h.0 (by at.0 at.1 h.1)
      where
        by : (p : ℕ) → index u files ≡ Some p → (v ≡ u) ⊎ Reaches files v u → circular_at (graph_of files) (index u files) (index v files) ≡ true
        by p e (inl s) = at_indices u v p p e (ap (λ (n : List ℕ). index n files) s ∙ e) ((circles (graph_of files) p p).1 (inl refl))
        by p e (inr way) =
            let first = first_use v way.0 u way.1 in
            let there = placed_user files v first.0 first.1 in
            at_indices u v p there.0 e there.1 ((circles (graph_of files) p there.0).1 (inr (to_indices v way.0 u there.0 p there.1 e way.1)))

    pub circular_both : (u v : List ℕ) → (is_circular files u v ≡ true) ↔ IsCircular files u v
    circular_both u v = (tested u v, stands u v)
