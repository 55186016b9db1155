use Rattle.std.proofs.Common.{◌≡◌, get_or, map, take}
use Rattle.occ_project_graph.proofs.leading.numbers_of.Given as goal

abbrev pub invariant-loop-index : goal.invariant-loop-index
invariant-loop-index l = l.found ≡ map (λ p. get_or l.numbers p 0) (take l.index-index l.indices)
