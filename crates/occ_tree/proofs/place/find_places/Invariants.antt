use Rattle.std.proofs.Common.{◌≡◌, [], List, length}
use Rattle.occ_tree.specs.declared.outline.Outline.{Outline}
use Rattle.occ_tree.specs.inside.Frames.{open_parents, opened, places, turned}
use Rattle.occ_tree.specs.Sorts.{outlines}
use Rattle.occ_tree.proofs.place.find_places.Given as goal

abbrev pub invariant-loop-first : goal.invariant-loop-first
invariant-loop-first l =
    (before : List Outline) × (opened l.open ≡ open_parents before) × (l.found ≡ places before)
    × (turned (outlines l.rest) before ≡ turned (outlines l.fn.lines) [])

abbrev pub decreases-loop-first : goal.decreases-loop-first
decreases-loop-first l = length l.rest
