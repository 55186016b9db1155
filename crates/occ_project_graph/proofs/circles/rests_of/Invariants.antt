use Rattle.std.proofs.Common.{◌≡◌, ◌++◌, drop}
use Rattle.occ_project_graph.specs.inside.Components.{rests_by}
use Rattle.occ_project_graph.proofs.circles.rests_of.Given as goal

abbrev pub invariant-loop-to : goal.invariant-loop-to
invariant-loop-to l = l.rests ++ rests_by l.numbers l.from (drop l.to-index l.targets) ≡ rests_by l.numbers l.from l.targets
