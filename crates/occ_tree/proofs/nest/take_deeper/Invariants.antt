use Rattle.std.proofs.Common.{◌≡◌, ◌++◌, length}
use Rattle.occ_tree.specs.Forest.{first_nodes, other_nodes}
use Rattle.occ_tree.proofs.nest.take_deeper.Given as goal

abbrev pub invariant-loop-top : goal.invariant-loop-top
invariant-loop-top l =
    (l.children ++ first_nodes l.depth l.roots ≡ first_nodes l.depth l.initial.roots)
    × (other_nodes l.depth l.roots ≡ other_nodes l.depth l.initial.roots)

abbrev pub decreases-loop-top : goal.decreases-loop-top
decreases-loop-top l = length l.roots
