use Rattle.std.proofs.Common.{take}
use Rattle.occ_project_graph.specs.inside.Linking.{AreLed}
use Rattle.occ_project_graph.proofs.joining.led_rows.Given as goal

abbrev pub invariant-loop-node : goal.invariant-loop-node
invariant-loop-node l = AreLed l.indices l.at l.number l.before (take l.node-index l.nodes) l.rows.items
