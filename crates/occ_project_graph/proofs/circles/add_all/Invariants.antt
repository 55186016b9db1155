use Rattle.std.proofs.Common.{◌<◌, ℕ}
use Rattle.occ_project_graph.specs.inside.Components.{AreComponents, component_at}
use Rattle.occ_project_graph.proofs.circles.add_all.Given as goal

abbrev pub invariant-loop-node : goal.invariant-loop-node
invariant-loop-node l = AreComponents l.graph l.components.found.marks l.components.back.marks × ((u : ℕ) → u < l.node → 0 < component_at l.components.found.marks u)
