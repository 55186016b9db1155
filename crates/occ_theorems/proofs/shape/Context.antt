-- What the lines before and after a line of trees say of it is what the trees say.
use Rattle.std.proofs.Common.{◌≡◌, ◌∙◌, ◌+◌, ◌++◌, ℕ, true, List, ◌∷◌, Option, sym, ap, subst, append_assoc}
use Rattle.occ_project.specs.declared.expanded.ExpandedLine.{ExpandedLine}
use Rattle.occ_tree.specs.declared.outline.Outline.{Outline}
use Rattle.occ_tree.specs.Forest.{Forest, Empty, Tree, listing}
use Rattle.occ_tree.specs.Nesting.{elders, is_right_under, parent_depth, row_at}
use Rattle.occ_tree.specs.Obeys.{HasDepths}
use Rattle.occ_tree.specs.Sorts.{outline}
use Rattle.occ_tree.proofs.Clean.{NoneWrong}
use Rattle.occ_tree.proofs.Judged.{AreJudged}
use Rattle.occ_tree.proofs.Listed.{IsAbove, above_more}
use Rattle.occ_tree.proofs.Context.{onto, after_tree, reported_by_trees, right_kid, row_kid, elders_kid, judged_same}

pub judged_back : (f : Forest) (d : ℕ) (before : List Outline) (xs : List ExpandedLine) → HasDepths d f → is_right_under (parent_depth before d) d ≡ true → IsAbove d xs
    → AreJudged (row_at before d) (elders before d) f → NoneWrong (onto f before) xs → NoneWrong before (listing f ++ xs)
judged_back Empty d before xs h k a j n = n
judged_back (Tree l u b) d before xs h k a j n =
    let kid = outline l ∷ before in
    let right : is_right_under (parent_depth before l.depth) l.depth ≡ true = rw h.0 k in
    let inside : HasDepths (l.depth + 1) u = subst (λ (x : ℕ). HasDepths (x + 1) u) (sym h.0) h.1 in
    let beside : HasDepths l.depth b = subst (λ (x : ℕ). HasDepths x b) (sym h.0) h.2 in
    let above : IsAbove l.depth xs = subst (λ (x : ℕ). IsAbove x xs) (sym h.0) a in
    let here : AreJudged (row_at before l.depth) (elders before l.depth) (Tree l u b)
    = subst (λ (x : ℕ). AreJudged (row_at before x) (elders before x) (Tree l u b)) (sym h.0) j in
    let same = after_tree l u before inside right in
    let rest = judged_back b l.depth (onto u kid) xs beside (ap (λ (p : Option ℕ). is_right_under p l.depth) same.0 ∙ right) above
    (judged_same b _ _ _ _ (sym same.1) (sym same.2) here.3) n in
    let inner = judged_back u (l.depth + 1) kid (listing b ++ xs) inside (right_kid (outline l) before) (above_more l.depth b xs beside above)
    (judged_same u _ _ _ _ (sym (row_kid (outline l) before)) (sym (elders_kid (outline l) before)) here.2) rest in (
      reported_by_trees before l u b xs right inside beside above ∙ rw here.0 here.1,
      subst (NoneWrong kid) (sym (append_assoc (listing u) (listing b) xs)) inner,
    )
