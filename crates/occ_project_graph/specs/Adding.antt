-- A graph with one node more, which comes to an index among the others.
use Rattle.std.specs.Prelude.{◌≡◌, ℕ, ◌+◌, ◌++◌, Bool, List, [], ◌∷◌, map, cond, nat_lt, not}
use Rattle.std.specs.List.{filter, insert}
use Rattle.occ_project_graph.specs.Graph.{Graph}

-- the index that a node has from then on
abbrev pub raised : ℕ → ℕ → ℕ
raised at v = cond (nat_lt v at) v (v + 1)

-- edges lead from the new node to these, and from the others to those to which they led
abbrev pub with_node : Graph → ℕ → List ℕ → Graph
with_node g at ws = insert (map (map (raised at)) g) at ws

-- those before an index stand in front of the others
abbrev pub IsParted : ℕ → List ℕ → Type 0
IsParted at ws = ws ≡ filter (λ w. nat_lt w at) ws ++ filter (λ w. not (nat_lt w at)) ws

-- where edges lead from a node if one leads to the new node, too: that stands behind those before its index
abbrev pub row_with : ℕ → List ℕ → List ℕ
row_with at ws = filter (λ w. nat_lt w at) ws ++ at ∷ map (λ w. w + 1) (filter (λ w. not (nat_lt w at)) ws)

-- the rows of the others, where one leads to it from each that has a mark
abbrev pub rows_with : ℕ → Graph → List Bool → Graph
rows_with at [] marks = []
rows_with at (ws ∷ g) [] = map (raised at) ws ∷ rows_with at g []
rows_with at (ws ∷ g) (m ∷ marks) = cond m (row_with at ws) (map (raised at) ws) ∷ rows_with at g marks

-- no edge leads from the new node, one to it from each that has a mark, and the others lead where they did
abbrev pub with_used_node : Graph → ℕ → List Bool → Graph
with_used_node g at marks = insert (rows_with at g marks) at []
