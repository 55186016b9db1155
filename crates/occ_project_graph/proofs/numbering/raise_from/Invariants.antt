use Rattle.occ_project_graph.specs.inside.Numbering.{IsRaising}
use Rattle.occ_project_graph.proofs.numbering.raise_from.Given as goal

abbrev pub invariant-loop-place : goal.invariant-loop-place
invariant-loop-place l = IsRaising l.numbers l.fn.indices l.indices l.at l.place
