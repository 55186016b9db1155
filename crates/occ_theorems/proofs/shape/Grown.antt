-- How a forest grows, from the last line on.
use Rattle.std.proofs.Common.{◌≡◌, ◌∙◌, Bool, true, false, List, [], ◌∷◌, refl, sym, ap}
use Rattle.std.proofs.lemmas.Bool.{true≢false}
use Rattle.occ_project.specs.declared.expanded.ExpandedLine.{ExpandedLine}
use Rattle.occ_tree.specs.declared.tree.Node.{Node, out-Node, roll-Node}
use Rattle.occ_tree.specs.declared.tree.Node.TheViews.{roll-out-Node}
use Rattle.occ_tree.specs.Forest.{Forest, Empty, Tree, forest_of}
use Rattle.occ_tree.proofs.Grown.{opened_tree}

abbrev nodes_back : Forest → List Node
nodes_back Empty = []
nodes_back (Tree l u b) = roll-Node (record { line = l; children = nodes_back u }) ∷ nodes_back b

abbrev part_line : Forest → ExpandedLine → ExpandedLine
part_line Empty l = l
part_line (Tree l u b) k = l

abbrev part_under : Forest → Forest
part_under Empty = Empty
part_under (Tree l u b) = u

abbrev part_after : Forest → Forest
part_after Empty = Empty
part_after (Tree l u b) = b

abbrev is_tree : Forest → Bool
is_tree Empty = false
is_tree (Tree l u b) = true

nodes_of : (f : Forest) (ns : List Node) → forest_of ns ≡ f → nodes_back f ≡ ns
nodes_of Empty [] e = refl
nodes_of Empty (n ∷ ns) e = absurd (true≢false (ap is_tree (sym (opened_tree n (forest_of ns)) ∙ e)))
nodes_of (Tree l u b) [] e = absurd (true≢false (sym (ap is_tree e)))
nodes_of (Tree l u b) (n ∷ ns) e =
    let opened = sym (opened_tree n (forest_of ns)) ∙ e in
    let line : (out-Node n).line ≡ l = ap (λ (f : Forest). part_line f l) opened in
    let under : nodes_back u ≡ (out-Node n).children = nodes_of u (out-Node n).children (ap part_under opened) in
    let following : nodes_back b ≡ ns = nodes_of b ns (ap part_after opened) in
    ap (λ (k : ExpandedLine). roll-Node (record { line = k; children = nodes_back u }) ∷ nodes_back b) (sym line)
    ∙ ap (λ (ms : List Node). roll-Node (record { line = (out-Node n).line; children = ms }) ∷ nodes_back b) under
    ∙ ap (λ (ms : List Node). roll-Node (record { line = (out-Node n).line; children = (out-Node n).children }) ∷ ms) following
    ∙ ap (λ (m : Node). m ∷ ns) (roll-out-Node n)

-- nodes that are seen as the same trees are the same
pub one_nodes : (ms ns : List Node) → forest_of ms ≡ forest_of ns → ms ≡ ns
one_nodes ms ns e = sym (nodes_of (forest_of ns) ms e) ∙ nodes_of (forest_of ns) ns refl
