-- Strong components: nodes that reach one another. An edge stands in a circle if it leads to a node of the component that it comes from.
use Rattle.std.specs.Prelude.{◌≡◌, ◌<◌, ◌+◌, ◌↔◌, ℕ, Bool, true, not, ◌&&◌, ◌==◌, ◌⊎◌, List, [], ◌∷◌, length, get_or, cond}
use Rattle.occ_project_graph.specs.Graph.{Graph, reaches}
use Rattle.occ_project_graph.specs.Sources.{sources}
use Rattle.occ_project_graph.specs.inside.Searching.{mark_at}

-- the number of the component of a node
abbrev pub component_at : List ℕ → ℕ → ℕ
component_at numbers v = get_or numbers v 0

-- two nodes are one, or each reaches the other
abbrev pub AreMutual : Graph → ℕ → ℕ → Type 0
AreMutual g u v = (u ≡ v) ⊎ ((reaches g u v ≡ true) × (reaches g v u ≡ true))

-- two nodes have one number exactly if they are mutual
abbrev pub AreAll : Graph → List ℕ → Type 0
AreAll g numbers = (u v : ℕ) → u < length g → v < length g → (component_at numbers u ≡ component_at numbers v) ↔ AreMutual g u v

-- for each node of a graph those from which edges lead to it
pub record IsTurned (g turned : Graph) : Type 0 where
  pub len : length turned ≡ length g
  pub sources_are : (v : ℕ) → v < length g → get_or turned v [] ≡ sources g v

-- Whole components have numbers over 0. A number or a mark r + 1 is given only where the node r has a number.
pub record AreComponents (g : Graph) (numbers marks : List ℕ) : Type 0 where
  pub len : length numbers ≡ length g
  pub marks_len : length marks ≡ length g
  pub named : (u r : ℕ) → component_at numbers u ≡ r + 1 → 0 < component_at numbers r
  pub marked : (u r : ℕ) → mark_at marks u ≡ r + 1 → 0 < component_at numbers r
  pub one : (u v : ℕ) → 0 < component_at numbers u → component_at numbers v ≡ component_at numbers u → AreMutual g u v
  pub whole : (u v : ℕ) → 0 < component_at numbers u → reaches g u v ≡ true → reaches g v u ≡ true → component_at numbers v ≡ component_at numbers u

abbrev pub is_one : List ℕ → ℕ → ℕ → Bool
is_one numbers u v = component_at numbers u == component_at numbers v

-- none of these is in the component of u
abbrev pub are_apart : List ℕ → ℕ → List ℕ → Bool
are_apart numbers u [] = true
are_apart numbers u (v ∷ vs) = not (is_one numbers u v) && are_apart numbers u vs

-- the same of each node and those to which edges lead from it, the first of which is u
abbrev pub all_apart : List ℕ → ℕ → List (List ℕ) → Bool
all_apart numbers u [] = true
all_apart numbers u (vs ∷ rest) = are_apart numbers u vs && all_apart numbers (u + 1) rest

-- those of these that are in other components than u
abbrev pub rests_by : List ℕ → ℕ → List ℕ → List ℕ
rests_by numbers u [] = []
rests_by numbers u (v ∷ vs) = cond (is_one numbers u v) (rests_by numbers u vs) (v ∷ rests_by numbers u vs)

abbrev pub all_rests_by : List ℕ → ℕ → List (List ℕ) → List (List ℕ)
all_rests_by numbers u [] = []
all_rests_by numbers u (vs ∷ rest) = rests_by numbers u vs ∷ all_rests_by numbers (u + 1) rest
