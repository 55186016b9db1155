use Rattle.std.proofs.Common.{◌≡◌, take}
use Rattle.occ_project_graph.proofs.leading.indices_of.Given as goal
use Rattle.occ_project_graph.specs.inside.Numbering.{indexed}

abbrev pub invariant-loop-node : goal.invariant-loop-node
invariant-loop-node l = l.found ≡ indexed l.indices (take l.node-index l.nodes)
