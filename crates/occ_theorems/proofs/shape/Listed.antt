-- Trees that list lines, each as deep as it stands, are the only ones that do.
use Rattle.std.proofs.Common.{◌≡◌, ◌∙◌, ◌+◌, ℕ, List, [], ◌∷◌, ◌++◌, refl, sym, ap, arith, append_assoc}
use Rattle.std.proofs.lemmas.List.{append-nil}
use Rattle.occ_project.specs.declared.expanded.ExpandedLine.{ExpandedLine}
use Rattle.occ_tree.specs.Forest.{Forest, Empty, Tree, listing}
use Rattle.occ_tree.specs.Obeys.{HasDepths, IsTreesOf}
use Rattle.occ_tree.proofs.Listed.{IsAbove, above_more}

first_line : {Z : Type 0} (d : ℕ) (l : ExpandedLine) (ls xs : List ExpandedLine) → l.depth ≡ d → IsAbove d xs → xs ≡ l ∷ ls → Z
first_line d l ls [] e a same = absurd cc
first_line d l ls (x ∷ xs) e a same =
    let here : x ≡ l = cc in
    absurd (omega (arith, a, e, ap (λ (y : ExpandedLine). y.depth) here))

one_more : (d : ℕ) (f g : Forest) (xs ys : List ExpandedLine) → HasDepths d f → HasDepths d g → IsAbove d xs → IsAbove d ys
    → listing f ++ xs ≡ listing g ++ ys → (f ≡ g) × (xs ≡ ys)
one_more d Empty Empty xs ys h k a b e = (refl, e)
one_more d Empty (Tree l under following) xs ys h k a b e = first_line d l _ xs k.0 a e
one_more d (Tree l under following) Empty xs ys h k a b e = first_line d l _ ys h.0 b (sym e)
one_more d (Tree l u b) (Tree m v c) xs ys h k a z e =
    let head : l ≡ m = cc in
    let tail : (listing u ++ listing b) ++ xs ≡ (listing v ++ listing c) ++ ys = cc in
    let parts : listing u ++ (listing b ++ xs) ≡ listing v ++ (listing c ++ ys)
    = sym (append_assoc (listing u) (listing b) xs) ∙ tail ∙ append_assoc (listing v) (listing c) ys in
    let inner = one_more (d + 1) u v (listing b ++ xs) (listing c ++ ys) h.1 k.1 (above_more d b xs h.2 a) (above_more d c ys k.2 z) parts in
    let outer = one_more d b c xs ys h.2 k.2 a z inner.1 in
    (rw head (rw inner.0 (rw outer.0 refl)), outer.1)

pub one_trees : (ls : List ExpandedLine) (f g : Forest) → IsTreesOf ls f → IsTreesOf ls g → f ≡ g
one_trees ls f g h k =
    (one_more 0 f g [] [] h.0 k.0 tt tt (append-nil (listing f) ∙ h.1 ∙ sym k.1 ∙ sym (append-nil (listing g)))).0
