use Rattle.std.proofs.Common.{◌<◌, ◌≤◌, ℕ, get_or, length}
use Rattle.occ_project_graph.specs.inside.Numbering.{index_at}
use Rattle.occ_project_graph.proofs.adding.front_of.Given as goal

abbrev pub invariant-loop-front : goal.invariant-loop-front
invariant-loop-front l = (l.front ≤ length l.nodes) × ((i : ℕ) → l.front ≤ i → i < length l.nodes → l.at ≤ index_at l.indices (get_or l.nodes i 0))

abbrev pub decreases-loop-front : goal.decreases-loop-front
decreases-loop-front l = l.front
