use Rattle.std.proofs.Common.{◌≡◌, ◌++◌, drop, map}
use Rattle.occ_project_graph.specs.Graph.{targets}
use Rattle.occ_project_graph.proofs.joining.rows_of.Given as goal

abbrev pub invariant-loop-node : goal.invariant-loop-node
invariant-loop-node l = l.copy ++ map (λ n. targets l.rows n) (drop l.node-index l.nodes) ≡ map (λ n. targets l.rows n) l.nodes
