-- The trees of a unit, which list its lines.
use Rattle.std.specs.Prelude.{ℕ, List, [], ◌∷◌, ◌++◌, map, nat_lt, if◌then◌else◌}
use Rattle.occ_project.specs.declared.expanded.ExpandedLine.{ExpandedLine}
use Rattle.occ_tree.specs.declared.tree.Node.{Node, out-Node}
use Rattle.occ_tree.specs.declared.tree.Node.TheOpen.{Node-F}
use Rattle.occ_tree.specs.declared.tree.Node.TheFolds.{fold-Node}

-- none, or a line, the trees right under it, and the trees after that one
pub data Forest : Type 0 where
  Empty : Forest
  Tree : ExpandedLine → Forest → Forest → Forest

-- the lines, each parent before its children
abbrev pub listing : Forest → List ExpandedLine
listing Empty = []
listing (Tree l under following) = l ∷ (listing under ++ listing following)

-- the trees that come first whose lines are deeper than d
abbrev pub first_trees : ℕ → Forest → Forest
first_trees d Empty = Empty
first_trees d (Tree l under following) = if nat_lt d l.depth then Tree l under (first_trees d following) else Empty

-- and the others
abbrev pub other_trees : ℕ → Forest → Forest
other_trees d Empty = Empty
other_trees d (Tree l under following) = if nat_lt d l.depth then other_trees d following else Tree l under following

-- the trees where each line stands under the last earlier line of smaller depth
abbrev pub nested : List ExpandedLine → Forest
nested [] = Empty
nested (l ∷ ls) = Tree l (first_trees l.depth (nested ls)) (other_trees l.depth (nested ls))

-- the trees that are these, where each is said what it is before others
abbrev pub one_after_other : List (Forest → Forest) → Forest
one_after_other [] = Empty
one_after_other (t ∷ ts) = t (one_after_other ts)

abbrev pub tree_step : Node-F (Forest → Forest) → Forest → Forest
tree_step n following = Tree n.line (one_after_other n.children) following

-- the tree of a node, before others
abbrev pub tree_of : Node → Forest → Forest
tree_of = fold-Node (Forest → Forest) tree_step

abbrev pub forest_of : List Node → Forest
forest_of ns = one_after_other (map tree_of ns)

abbrev pub depth_of : Node → ℕ
depth_of n = (out-Node n).line.depth

-- the nodes that come first whose lines are deeper than d
abbrev pub first_nodes : ℕ → List Node → List Node
first_nodes d [] = []
first_nodes d (n ∷ ns) = if nat_lt d (depth_of n) then n ∷ first_nodes d ns else []

-- and the others
abbrev pub other_nodes : ℕ → List Node → List Node
other_nodes d [] = []
other_nodes d (n ∷ ns) = if nat_lt d (depth_of n) then other_nodes d ns else n ∷ ns
