use Rattle.std.proofs.Common.{◌≡◌, take}
use Rattle.occ_project_graph.proofs.leading.edges_by.Given as goal
use Rattle.occ_project_graph.specs.inside.Numbering.{graph_by}

abbrev pub invariant-loop-number : goal.invariant-loop-number
invariant-loop-number l = l.rows.items ≡ graph_by (take l.number-index l.numbers) l.indices l.edges
