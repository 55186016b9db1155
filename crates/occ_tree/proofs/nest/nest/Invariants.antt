use Rattle.std.proofs.Common.{◌≡◌, ◌++◌, List, length}
use Rattle.occ_project.specs.declared.expanded.ExpandedLine.{ExpandedLine}
use Rattle.occ_tree.specs.Forest.{forest_of, nested}
use Rattle.occ_tree.proofs.nest.nest.Given as goal

abbrev pub invariant-loop-line : goal.invariant-loop-line
invariant-loop-line l = (after : List ExpandedLine) × (l.left ++ after ≡ l.fn.lines) × (forest_of l.roots ≡ nested after)

abbrev pub decreases-loop-line : goal.decreases-loop-line
decreases-loop-line l = length l.left
