use Rattle.std.proofs.Common.{◌≡◌, get_or, length, map, take}
use Rattle.std.specs.List.{insert}
use Rattle.occ_project_graph.proofs.numbering.numbers_then.Given as goal

abbrev pub invariant-loop-index : goal.invariant-loop-index
invariant-loop-index l = l.found.items ≡ map (λ p. get_or (insert l.numbers l.at (length l.numbers)) p 0) (take l.index-index l.indices)
