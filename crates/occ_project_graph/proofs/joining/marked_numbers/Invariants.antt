use Rattle.std.proofs.Common.{◌≡◌, take}
use Rattle.occ_project_graph.specs.inside.Linking.{marked}
use Rattle.occ_project_graph.proofs.joining.marked_numbers.Given as goal

abbrev pub invariant-loop-index : goal.invariant-loop-index
invariant-loop-index l = l.found ≡ marked (take l.index l.numbers) l.marks
