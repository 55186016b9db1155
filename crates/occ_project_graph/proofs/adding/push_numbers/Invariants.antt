use Rattle.std.proofs.Common.{◌≡◌, ◌≤◌, drop, length}
use Rattle.occ_project_graph.specs.inside.Linking.{pushed}
use Rattle.occ_project_graph.proofs.adding.push_numbers.Given as goal

abbrev pub invariant-loop-left : goal.invariant-loop-left
invariant-loop-left l = (l.left ≤ length l.nodes) × (l.rows.items ≡ pushed l.fn.rows.items (drop l.left l.nodes) l.number)

abbrev pub decreases-loop-left : goal.decreases-loop-left
decreases-loop-left l = l.left
