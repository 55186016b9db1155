use Rattle.std.proofs.Common.{◌≡◌, drop}
use Rattle.occ_project_graph.specs.inside.Components.{all_apart}
use Rattle.occ_project_graph.proofs.circles.all_apart.Given as goal

abbrev pub invariant-loop-from : goal.invariant-loop-from
invariant-loop-from l = all_apart l.numbers l.from (drop l.from l.graph) ≡ all_apart l.numbers 0 l.graph
