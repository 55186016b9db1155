-- The rows of a graph where edges lead elsewhere from a node that was there.
use Rattle.std.specs.Prelude.{ℕ, ◌++◌, List, [], get_or, map, nat_lt, replicate}
use Rattle.std.specs.List.{filter}
use Rattle.occ_project_graph.specs.Graph.{Graph}
use Rattle.occ_project_graph.specs.inside.Numbering.{index_at, times_in}

-- those of these nodes that stand before an index, and behind it
abbrev pub nodes_before : List ℕ → ℕ → List ℕ → List ℕ
nodes_before indices at nodes = filter (λ n. nat_lt (index_at indices n) at) nodes

abbrev pub nodes_behind : List ℕ → ℕ → List ℕ → List ℕ
nodes_behind indices at nodes = filter (λ n. nat_lt at (index_at indices n)) nodes

-- from where edges lead to a node, so many of them from the node of a number, which has this index
abbrev pub later_row : List ℕ → ℕ → ℕ → ℕ → List ℕ → List ℕ
later_row indices at number times before = nodes_before indices at before ++ (replicate times number ++ nodes_behind indices at before)

-- the rows of these nodes, where edges lead from that node to those
abbrev pub later_rows : List ℕ → Graph → ℕ → ℕ → List ℕ → List ℕ → Graph
later_rows indices sources at number leading nodes = map (λ n. later_row indices at number (times_in leading n) (get_or sources n [])) nodes
