-- A node and those after it as trees.
use Rattle.std.proofs.Common.{◌≡◌, List, ◌∷◌}
use Rattle.occ_tree.specs.declared.tree.Node.{Node, out-Node}
use Rattle.occ_tree.specs.Forest.{Tree, forest_of}
use Rattle.occ_tree.proofs.Grown.{opened_tree}

pub first_tree : (n : Node) (ns : List Node) → forest_of (n ∷ ns) ≡ Tree (out-Node n).line (forest_of (out-Node n).children) (forest_of ns)
first_tree n ns = opened_tree n (forest_of ns)

pub ruleset tree_rules = (first_tree)
