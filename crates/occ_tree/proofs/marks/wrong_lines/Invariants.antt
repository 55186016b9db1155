use Rattle.std.proofs.Common.{◌≡◌, List, length}
use Rattle.occ_tree.specs.declared.outline.Outline.{Outline}
use Rattle.occ_tree.specs.inside.Frames.{places, turned}
use Rattle.occ_tree.specs.Nesting.{roots}
use Rattle.occ_tree.specs.Sorts.{outlines}
use Rattle.occ_tree.specs.Wrong.{wrong_from}
use Rattle.occ_tree.proofs.marks.wrong_lines.Given as goal

abbrev pub invariant-loop-place : goal.invariant-loop-place
invariant-loop-place l =
    (before : List Outline) × (after : List Outline) × (l.places ≡ places before) × (l.roots ≡ roots after)
    × (l.found ≡ wrong_from before after) × (turned before after ≡ outlines l.fn.lines)

abbrev pub decreases-loop-place : goal.decreases-loop-place
decreases-loop-place l = length l.places
