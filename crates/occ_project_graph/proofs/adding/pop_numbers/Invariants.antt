use Rattle.std.proofs.Common.{◌≡◌, ℕ, drop}
use Rattle.occ_project_graph.specs.Graph.{Graph}
use Rattle.occ_project_graph.specs.inside.Linking.{pushed}
use Rattle.occ_project_graph.proofs.adding.pop_numbers.Given as goal

abbrev pub invariant-loop-node : goal.invariant-loop-node
invariant-loop-node l = (g : Graph) (number : ℕ) → l.fn.rows.items ≡ pushed g l.nodes number → l.rows.items ≡ pushed g (drop l.node-index l.nodes) number
