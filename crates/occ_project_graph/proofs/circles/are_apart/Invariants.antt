use Rattle.std.proofs.Common.{◌≡◌, drop}
use Rattle.occ_project_graph.specs.inside.Components.{are_apart}
use Rattle.occ_project_graph.proofs.circles.are_apart.Given as goal

abbrev pub invariant-loop-to : goal.invariant-loop-to
invariant-loop-to l = are_apart l.numbers l.from (drop l.to-index l.targets) ≡ are_apart l.numbers l.from l.targets
