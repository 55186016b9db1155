-- How a forest grows, from the last line on.
use Rattle.std.proofs.Common.{◌≡◌, ◌∙◌, ℕ, Bool, true, false, cond, ltb, List, [], ◌∷◌, ◌++◌, refl, sym, ap, append_assoc}
use Rattle.occ_project.specs.declared.expanded.ExpandedLine.{ExpandedLine}
use Rattle.occ_tree.specs.declared.tree.Node.{Node, out-Node, roll-Node}
use Rattle.occ_tree.specs.declared.tree.Node.TheFolds.{fold-roll-Node, fold_out-Node}
use Rattle.occ_tree.specs.Forest.{Forest, Empty, Tree, depth_of, first_nodes, first_trees, forest_of, nested, other_nodes, other_trees, tree_of, tree_step}

pub opened_tree : (n : Node) (f : Forest) → tree_of n f ≡ Tree (out-Node n).line (forest_of (out-Node n).children) f
opened_tree n f = ap (λ (t : Forest → Forest). t f) (fold_out-Node (Forest → Forest) tree_step n)

pub rolled_tree : (l : ExpandedLine) (ns : List Node) (f : Forest) → tree_of (roll-Node (record { line = l; children = ns })) f ≡ Tree l (forest_of ns) f
rolled_tree l ns f = ap (λ (t : Forest → Forest). t f) (fold-roll-Node (Forest → Forest) tree_step (record { line = l; children = ns }))

first_split : (b : Bool) (n : Node) (ns : List Node) (f : Forest) → forest_of ns ≡ f
    → forest_of (cond b (n ∷ ns) []) ≡ cond b (Tree (out-Node n).line (forest_of (out-Node n).children) f) Empty
first_split true n ns f e = opened_tree n (forest_of ns) ∙ ap (λ (g : Forest). Tree (out-Node n).line (forest_of (out-Node n).children) g) e
first_split false n ns f e = refl

pub forest_first : (d : ℕ) (ns : List Node) → forest_of (first_nodes d ns) ≡ first_trees d (forest_of ns)
forest_first d [] = refl
forest_first d (n ∷ ns) =
    first_split (ltb d (depth_of n)) n (first_nodes d ns) (first_trees d (forest_of ns)) (forest_first d ns)
    ∙ ap (first_trees d) (sym (opened_tree n (forest_of ns)))

other_split : (b : Bool) (n : Node) (ms ns : List Node) (f : Forest) → forest_of ms ≡ f
    → forest_of (cond b ms (n ∷ ns)) ≡ cond b f (Tree (out-Node n).line (forest_of (out-Node n).children) (forest_of ns))
other_split true n ms ns f e = e
other_split false n ms ns f e = opened_tree n (forest_of ns)

pub forest_other : (d : ℕ) (ns : List Node) → forest_of (other_nodes d ns) ≡ other_trees d (forest_of ns)
forest_other d [] = refl
forest_other d (n ∷ ns) =
    other_split (ltb d (depth_of n)) n (other_nodes d ns) ns (other_trees d (forest_of ns)) (forest_other d ns)
    ∙ ap (other_trees d) (sym (opened_tree n (forest_of ns)))

-- one line more
pub nested_more : (left left' after lines : List ExpandedLine) (l : ExpandedLine) (roots roots' more children : List Node)
    → left ++ after ≡ lines → left ≡ left' ++ l ∷ [] → forest_of roots ≡ nested after
    → children ≡ first_nodes l.depth roots → roots' ≡ other_nodes l.depth roots
    → more ≡ roll-Node (record { line = l; children = children }) ∷ roots'
    → (x : List ExpandedLine) × (left' ++ x ≡ lines) × (forest_of more ≡ nested x)
nested_more left left' after lines l roots roots' more children whole split here taken kept put =
    let under : forest_of children ≡ first_trees l.depth (nested after) = ap forest_of taken ∙ forest_first l.depth roots ∙ ap (first_trees l.depth) here in
    let following : forest_of roots' ≡ other_trees l.depth (nested after) = ap forest_of kept ∙ forest_other l.depth roots ∙ ap (other_trees l.depth) here in
    let grown : forest_of more ≡ Tree l (first_trees l.depth (nested after)) (other_trees l.depth (nested after))
    = ap forest_of put ∙ rolled_tree l children (forest_of roots') ∙ ap (λ (f : Forest). Tree l f (forest_of roots')) under ∙ ap (λ (f : Forest). Tree l (first_trees l.depth (nested after)) f) following in
    (l ∷ after, sym (append_assoc left' (l ∷ []) after) ∙ ap (λ (ls : List ExpandedLine). ls ++ after) (sym split) ∙ whole, grown)
