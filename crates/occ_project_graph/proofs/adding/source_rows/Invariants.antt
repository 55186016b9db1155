use Rattle.std.proofs.Common.{take}
use Rattle.occ_project_graph.specs.inside.Numbering.{AreSourceRows}
use Rattle.occ_project_graph.proofs.adding.source_rows.Given as goal

abbrev pub invariant-loop-node : goal.invariant-loop-node
invariant-loop-node l = AreSourceRows l.indices l.sources l.at l.number l.nodes (take l.node-index l.nodes) l.rows.items
