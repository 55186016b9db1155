use Rattle.std.proofs.Common.{◌≡◌, take}
use Rattle.occ_project_graph.specs.inside.Leading.{later_rows}
use Rattle.occ_project_graph.proofs.leading.rows_later.Given as goal

abbrev pub invariant-loop-node : goal.invariant-loop-node
invariant-loop-node l = l.rows ≡ later_rows l.indices l.sources l.at l.number l.leading (take l.node-index l.nodes)
