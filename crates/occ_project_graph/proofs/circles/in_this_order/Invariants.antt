use Rattle.occ_project_graph.specs.inside.Components.{AreComponents}
use Rattle.occ_project_graph.proofs.circles.in_this_order.Given as goal

abbrev pub invariant-loop-node : goal.invariant-loop-node
invariant-loop-node l = AreComponents l.graph l.components.found.marks l.components.back.marks
