use Rattle.std.proofs.Common.{◌-◌, length}
use Rattle.occ_project_graph.specs.inside.Numbering.{IsRaising}
use Rattle.occ_project_graph.proofs.numbering.raise_fours.Given as goal

abbrev pub invariant-loop-indices : goal.invariant-loop-indices
invariant-loop-indices l = IsRaising l.numbers l.fn.indices l.indices l.at l.place

abbrev pub decreases-loop-indices : goal.decreases-loop-indices
decreases-loop-indices l = length l.numbers - l.place
