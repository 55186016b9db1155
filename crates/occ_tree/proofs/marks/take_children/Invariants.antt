use Rattle.std.proofs.Common.{◌≡◌, length}
use Rattle.occ_tree.specs.Nesting.{after_deeper, sorts, first_deeper}
use Rattle.occ_tree.specs.Siblings.{lacks}
use Rattle.occ_tree.proofs.Ends.{lacks_after}
use Rattle.occ_tree.proofs.marks.take_children.Given as goal

abbrev pub invariant-loop-top : goal.invariant-loop-top
invariant-loop-top l =
    (lacks_after l.row l.children (sorts (first_deeper l.depth l.roots)) ≡ lacks l.row (sorts (first_deeper l.depth l.initial.roots)))
    × (after_deeper l.depth l.roots ≡ after_deeper l.depth l.initial.roots)

abbrev pub decreases-loop-top : goal.decreases-loop-top
decreases-loop-top l = length l.roots
