use Rattle.std.proofs.Common.{◌≡◌, ◌++◌, take}
use Rattle.occ_project_graph.specs.inside.Leading.{nodes_behind}
use Rattle.occ_project_graph.proofs.leading.add_behind.Given as goal

abbrev pub invariant-loop-node : goal.invariant-loop-node
invariant-loop-node l = l.row.items ≡ l.initial.row.items ++ nodes_behind l.indices l.at (take l.node-index l.nodes)
