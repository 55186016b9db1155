use Rattle.std.proofs.Common.{◌≡◌, ◌++◌, drop}
use Rattle.occ_project_graph.specs.inside.Components.{all_rests_by}
use Rattle.occ_project_graph.proofs.circles.all_rests_of.Given as goal

abbrev pub invariant-loop-from : goal.invariant-loop-from
invariant-loop-from l = l.all.items ++ all_rests_by l.numbers l.from (drop l.from l.graph) ≡ all_rests_by l.numbers 0 l.graph
