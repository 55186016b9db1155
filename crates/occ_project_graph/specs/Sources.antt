-- A graph turned round: for each node those from which edges lead to it.
use Rattle.std.specs.Prelude.{ℕ, ◌+◌, ◌==◌, List, [], ◌∷◌, ◌++◌, map}
use Rattle.std.specs.List.{filter}
use Rattle.occ_project_graph.specs.Graph.{Graph}

-- u, once for each edge from it to v, where edges lead from it to these
abbrev pub once_each : ℕ → List ℕ → ℕ → List ℕ
once_each u ws v = map (λ w. u) (filter (λ w. w == v) ws)

-- the same of all nodes, the first of which is u
abbrev pub sources_from : ℕ → Graph → ℕ → List ℕ
sources_from u [] v = []
sources_from u (ws ∷ g) v = once_each u ws v ++ sources_from (u + 1) g v

-- the nodes from which edges lead to v, in order, once for each edge
abbrev pub sources : Graph → ℕ → List ℕ
sources g v = sources_from 0 g v
