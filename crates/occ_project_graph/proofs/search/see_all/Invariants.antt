use Rattle.std.proofs.Common.{◌≡◌, drop}
use Rattle.occ_project_graph.specs.inside.Searching.{seen_all}
use Rattle.occ_project_graph.proofs.search.see_all.Given as goal

abbrev pub invariant-loop-node : goal.invariant-loop-node
invariant-loop-node l = seen_all l.others l.other l.mark l.seen (drop l.node-index l.nodes) ≡ seen_all l.others l.other l.mark l.initial.seen l.nodes
