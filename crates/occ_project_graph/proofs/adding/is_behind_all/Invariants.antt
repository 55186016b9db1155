use Rattle.std.proofs.Common.{◌<◌, ℕ, [], get_or, length}
use Rattle.occ_project_graph.specs.inside.Numbering.{IsFrontBefore}
use Rattle.occ_project_graph.proofs.adding.is_behind_all.Given as goal

abbrev pub invariant-loop-node : goal.invariant-loop-node
invariant-loop-node l = (i : ℕ) → i < l.node-index → (get_or l.nodes i 0 < length l.sources) × IsFrontBefore l.indices l.at (get_or l.sources (get_or l.nodes i 0) []) (length (get_or l.sources (get_or l.nodes i 0) []))
