use Rattle.std.proofs.Common.{◌≡◌, ◌++◌, take}
use Rattle.occ_project_graph.specs.inside.Leading.{nodes_before}
use Rattle.occ_project_graph.proofs.leading.add_before.Given as goal

abbrev pub invariant-loop-node : goal.invariant-loop-node
invariant-loop-node l = l.row.items ≡ l.initial.row.items ++ nodes_before l.indices l.at (take l.node-index l.nodes)
