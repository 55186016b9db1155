-- Trees that list lines, each as deep as it stands, are the only ones that do.
use Rattle.std.proofs.Common.{◌≡◌, ◌∙◌, ◌<◌, ◌+◌, ℕ, Bool, true, false, cond, ltb, List, [], ◌∷◌, ◌++◌, refl, ap, arith, append_assoc}
use Rattle.occ_project.specs.declared.expanded.ExpandedLine.{ExpandedLine}
use Rattle.occ_tree.specs.Forest.{Forest, Empty, Tree, first_trees, listing, nested, other_trees}
use Rattle.occ_tree.specs.Obeys.{HasDepths}

split_listing : (b : Bool) (l : ExpandedLine) (under following first other : Forest) → listing first ++ listing other ≡ listing following
    → listing (cond b (Tree l under first) Empty) ++ listing (cond b other (Tree l under following)) ≡ l ∷ (listing under ++ listing following)
split_listing true l under following first other e =
    ap (λ (ls : List ExpandedLine). l ∷ ls) (append_assoc (listing under) (listing first) (listing other) ∙ ap (λ (ls : List ExpandedLine). listing under ++ ls) e)
split_listing false l under following first other e = refl

pub listing_split : (d : ℕ) (f : Forest) → listing (first_trees d f) ++ listing (other_trees d f) ≡ listing f
listing_split d Empty = refl
listing_split d (Tree l under following) = split_listing (ltb d l.depth) l under following (first_trees d following) (other_trees d following) (listing_split d following)

pub listing_nested : (ls : List ExpandedLine) → listing (nested ls) ≡ ls
listing_nested [] = refl
listing_nested (l ∷ ls) = ap (λ (x : List ExpandedLine). l ∷ x) (listing_split l.depth (nested ls) ∙ listing_nested ls)

-- a line of depth less than d comes first, or none
abbrev pub IsAbove : ℕ → List ExpandedLine → Type 0
IsAbove d [] = Unit {0}
IsAbove d (l ∷ ls) = l.depth < d

pub above_more : (d : ℕ) (f : Forest) (ls : List ExpandedLine) → HasDepths d f → IsAbove d ls → IsAbove (d + 1) (listing f ++ ls)
above_more d Empty [] h a = tt
above_more d Empty (l ∷ ls) h a = omega (arith, a)
above_more d (Tree l under following) ls h a = omega (arith, h.0)
