use Rattle.std.proofs.Common.{◌≡◌, ◌++◌, drop}
use Rattle.occ_project_graph.specs.inside.Linking.{others}
use Rattle.occ_project_graph.proofs.resting.others.Given as goal

abbrev pub invariant-loop-node : goal.invariant-loop-node
invariant-loop-node l = l.others ++ others l.at (drop l.node-index l.nodes) ≡ others l.at l.nodes
