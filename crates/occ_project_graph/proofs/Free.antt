-- Graphs in which no edge stands in a circle: each node rests on all to which edges lead from it.
use Rattle.std.proofs.Common.{◌≡◌, ◌∙◌, ℕ, Bool, true, false, cond, not, ◌==◌, List, [], ◌∷◌, length, refl, sym, ap}
use Rattle.std.specs.List.{filter}
use Rattle.std.proofs.lemmas.Bool.{eq-eqb, eqb-true}
use Rattle.occ_project_graph.specs.Graph.{Graph, all_rests, has_edge, is_among, is_circular, targets}
use Rattle.occ_project_graph.specs.inside.Linking.{others}
use Rattle.occ_project_graph.proofs.Added.{all_rows, none_by, rests_long, rests_there}
use Rattle.occ_project_graph.proofs.Ways.{first_holds, second_holds}

-- a test that all pass leaves all
all_pass : (test : ℕ → Bool) (ws : List ℕ) → ((v : ℕ) → is_among ws v ≡ true → test v ≡ true) → filter test ws ≡ ws
all_pass test [] pass = refl
all_pass test (w ∷ ws) pass =
    ap (λ (b : Bool). cond b (w ∷ filter test ws) (filter test ws)) (pass w (first_holds (w == w) (is_among ws w) (eq-eqb w w refl)))
    ∙ ap (λ (vs : List ℕ). w ∷ vs) (all_pass test ws (λ v h. pass v (second_holds (w == v) (is_among ws v) h)))

-- where no edge stands in a circle
pub free_rests : (g : Graph) → ((u v : ℕ) → has_edge g u v ≡ true → is_circular g u v ≡ false) → g ≡ all_rests g
free_rests g none = all_rows g (all_rests g) (sym long) (λ u lt. sym (rests_there g u ∙ all_pass (λ v. not (is_circular g u v)) (targets g u) (λ v h. ap not (none u v h)))) where
  long : length (all_rests g) ≡ length g
  long = rests_long g 0 (length g)

-- where a node is not among these, the others are all
pub all_others : (at : ℕ) (ws : List ℕ) → is_among ws at ≡ false → others at ws ≡ ws
all_others at ws none = all_pass (λ w. not (w == at)) ws (λ v h. ap not (none_by (v == at) (λ e. absurd (by (eqb-true v at e) h)))) where
  by : {v : ℕ} → v ≡ at → is_among ws v ≡ true → ⊥
  by e h = let both : true ≡ false = sym h ∙ ap (is_among ws) e ∙ none in cc
