use Rattle.occ_project_graph.proofs.Rising.{DoRise}
use Rattle.occ_project_graph.specs.inside.Numbering.{index_at}
use Rattle.occ_project_graph.proofs.adding.do_rise.Given as goal

abbrev pub invariant-loop-i : goal.invariant-loop-i
invariant-loop-i l = DoRise (index_at l.indices) l.nodes l.i
