-- What the lines before and after a line of trees say of it is what the trees say.
use Rattle.std.proofs.Common.{◌≡◌, ◌∙◌, ◌≤◌, ◌<◌, ◌+◌, ◌||◌, ◌++◌, not, ℕ, Bool, true, false, ltb, List, [], ◌∷◌, Option, None, Some, refl, sym, ap, subst, arith, append_assoc}
use Rattle.std.proofs.lemmas.Bool.{eqb-true, eq-eqb, le-ltb, lt-ltb, true≢false}
use Rattle.occ_project.specs.declared.expanded.ExpandedLine.{ExpandedLine}
use Rattle.occ_tree.specs.declared.outline.Outline.{Outline}
use Rattle.occ_tree.specs.declared.row.Row.{Row}
use Rattle.occ_tree.specs.declared.sort.Sort.{Sort}
use Rattle.occ_tree.specs.Forest.{Forest, Empty, Tree, listing}
use Rattle.occ_tree.specs.Nesting.{after_deeper, elders, can_hold, is_right_under, parent_depth, roots, row_at, sorts, first_deeper}
use Rattle.occ_tree.specs.Obeys.{HasDepths, root_sorts, sort_of}
use Rattle.occ_tree.specs.Siblings.{first_is, is_misplaced, lacks}
use Rattle.occ_tree.specs.Sorts.{outline, outlines}
use Rattle.occ_tree.specs.Table.{is_close, row_under}
use Rattle.occ_tree.specs.Wrong.{close_is_next, is_wrong}
use Rattle.occ_tree.proofs.Clean.{NoneWrong}
use Rattle.occ_tree.proofs.Judged.{AreJudged}
use Rattle.occ_tree.proofs.Listed.{IsAbove, above_more}

-- the lines of the trees and then those before, the nearest first
abbrev pub onto : Forest → List Outline → List Outline
onto Empty before = before
onto (Tree l u b) before = onto b (onto u (outline l ∷ before))

-- a line of depth d has the same parent and elders after either
abbrev Same : ℕ → List Outline → List Outline → Type 0
Same d before following = (parent_depth following d ≡ parent_depth before d) × (row_at following d ≡ row_at before d) × (elders following d ≡ elders before d)

same_more : (d : ℕ) (a b c : List Outline) → Same d a b → Same d b c → Same d a c
same_more d a b c h k = (k.0 ∙ h.0, k.1 ∙ h.1, k.2 ∙ h.2)

-- a line that is no shallower and whose parent is none of theirs
same_deeper : (l : Outline) (before : List Outline) (d : ℕ) → d ≤ l.depth → can_hold (parent_depth before l.depth) d ≡ false → Same d before (l ∷ before)
same_deeper l before d le h =
    (rw (le-ltb l.depth d le) refl, rw (le-ltb l.depth d le) refl, rw (le-ltb l.depth d le) (rw h refl))

parent_kid : (l : Outline) (before : List Outline) (d : ℕ) → l.depth < d → parent_depth (l ∷ before) d ≡ Some l.depth
parent_kid l before d lt = rw (lt-ltb l.depth d lt) refl

passed : (f : Forest) (e d : ℕ) (before : List Outline) → HasDepths e f → d < e → can_hold (parent_depth before e) d ≡ false → Same d before (onto f before)
passed Empty e d before h lt k = (refl, refl, refl)
passed (Tree l u b) e d before h lt k =
    let kid = outline l ∷ before in
    let deeper : l.depth < e + 1 = omega (arith, h.0) in
    let kid_parent : parent_depth kid (e + 1) ≡ Some l.depth = parent_kid (outline l) before (e + 1) deeper in
    let kid_can_hold : (c : ℕ) → c ≤ e → can_hold (parent_depth kid (e + 1)) c ≡ false
    = λ c le. ap (λ (p : Option ℕ). can_hold p c) kid_parent ∙ le-ltb l.depth c (omega (arith, le, h.0)) in
    let first = same_deeper (outline l) before d (omega (arith, lt, h.0)) (ap (λ (n : ℕ). can_hold (parent_depth before n) d) h.0 ∙ k) in
    let inner = passed u (e + 1) d kid h.1 (omega (arith, lt)) (kid_can_hold d (omega (arith, lt))) in
    let level = passed u (e + 1) e kid h.1 (omega arith) (kid_can_hold e (omega arith)) in
    let same : parent_depth (onto u kid) e ≡ parent_depth before e = level.0 ∙ rw (le-ltb l.depth e (omega (arith, h.0))) refl in
    let outer = passed b e d (onto u kid) h.2 lt (ap (λ (p : Option ℕ). can_hold p d) same ∙ k) in
    same_more d before kid (onto b (onto u kid)) first (same_more d kid (onto u kid) (onto b (onto u kid)) inner outer)

right_can_hold : (p : Option ℕ) (d : ℕ) → is_right_under p d ≡ true → can_hold p d ≡ true
right_can_hold None d h = refl
right_can_hold (Some q) d h = lt-ltb q d (omega (arith, eqb-true d (q + 1) h))

-- after a line and those under it: the line is the nearest elder
pub after_tree : (l : ExpandedLine) (u : Forest) (before : List Outline) → HasDepths (l.depth + 1) u → is_right_under (parent_depth before l.depth) l.depth ≡ true
    → (parent_depth (onto u (outline l ∷ before)) l.depth ≡ parent_depth before l.depth)
    × (row_at (onto u (outline l ∷ before)) l.depth ≡ row_at before l.depth)
    × (elders (onto u (outline l ∷ before)) l.depth ≡ sort_of l ∷ elders before l.depth)
after_tree l u before h k =
    let kid = outline l ∷ before in
    let no : ltb l.depth l.depth ≡ false = le-ltb l.depth l.depth (omega arith) in
    let kid_can_hold : can_hold (parent_depth kid (l.depth + 1)) l.depth ≡ false
    = ap (λ (p : Option ℕ). can_hold p l.depth) (parent_kid (outline l) before (l.depth + 1) (omega arith)) ∙ no in
    let inner = passed u (l.depth + 1) l.depth kid h (omega arith) kid_can_hold in
    (inner.0 ∙ rw no refl, inner.1 ∙ rw no refl, inner.2 ∙ rw no (rw (right_can_hold (parent_depth before l.depth) l.depth k) refl))

abbrev root_outlines : Forest → List Outline
root_outlines Empty = []
root_outlines (Tree l u b) = outline l ∷ root_outlines b

after_deeper_trees : (d : ℕ) (f : Forest) (zs : List Outline) → HasDepths (d + 1) f → after_deeper d (root_outlines f ++ zs) ≡ after_deeper d zs
after_deeper_trees d Empty zs h = refl
after_deeper_trees d (Tree l u b) zs h = rw (lt-ltb d l.depth (omega (arith, h.0))) (after_deeper_trees d b zs h.2)

first_deeper_trees : (d : ℕ) (f : Forest) (zs : List Outline) → HasDepths (d + 1) f → first_deeper d (root_outlines f ++ zs) ≡ root_outlines f ++ first_deeper d zs
first_deeper_trees d Empty zs h = refl
first_deeper_trees d (Tree l u b) zs h =
    rw (lt-ltb d l.depth (omega (arith, h.0))) (ap (λ (x : List Outline). outline l ∷ x) (first_deeper_trees d b zs h.2))

after_deeper_above : (d : ℕ) (ls : List ExpandedLine) → IsAbove (d + 1) ls → after_deeper d (roots (outlines ls)) ≡ roots (outlines ls)
after_deeper_above d [] a = refl
after_deeper_above d (l ∷ ls) a = rw (le-ltb d l.depth (omega (arith, a))) refl

first_deeper_above : (d : ℕ) (ls : List ExpandedLine) → IsAbove (d + 1) ls → first_deeper d (roots (outlines ls)) ≡ []
first_deeper_above d [] a = refl
first_deeper_above d (l ∷ ls) a = rw (le-ltb d l.depth (omega (arith, a))) refl

mutual_roots : (f : Forest) (d : ℕ) (ys : List ExpandedLine) → HasDepths d f → IsAbove d ys → roots (outlines (listing f ++ ys)) ≡ root_outlines f ++ roots (outlines ys)
mutual_roots Empty d ys h a = refl
mutual_roots (Tree l u b) d ys h a =
    let rest = listing b ++ ys in
    let above : IsAbove (d + 1) rest = above_more d b ys h.2 a in
    let split : roots (outlines ((listing u ++ listing b) ++ ys)) ≡ root_outlines u ++ roots (outlines rest)
    = ap (λ (x : List ExpandedLine). roots (outlines x)) (append_assoc (listing u) (listing b) ys) ∙ mutual_roots u (d + 1) rest h.1 above in
    let past : after_deeper d (roots (outlines ((listing u ++ listing b) ++ ys))) ≡ root_outlines b ++ roots (outlines ys)
    = ap (after_deeper d) split ∙ after_deeper_trees d u (roots (outlines rest)) h.1 ∙ after_deeper_above d rest above ∙ mutual_roots b d ys h.2 a in
    ap (λ (x : List Outline). outline l ∷ x) (ap (λ (n : ℕ). after_deeper n (roots (outlines ((listing u ++ listing b) ++ ys)))) h.0 ∙ past)

sorts_roots : (f : Forest) → sorts (root_outlines f) ≡ root_sorts f
sorts_roots Empty = refl
sorts_roots (Tree l u b) = ap (λ (x : List Sort). sort_of l ∷ x) (sorts_roots b)

sorts_append : (xs : List Outline) → sorts (xs ++ []) ≡ sorts xs
sorts_append [] = refl
sorts_append (x ∷ xs) = ap (λ (y : List Sort). x.sort ∷ y) (sorts_append xs)

close_above : (p : Option ℕ) (d : ℕ) (ys : List ExpandedLine) → is_right_under p d ≡ true → IsAbove d ys → close_is_next p (roots (outlines ys)) ≡ false
close_above p d [] h a = refl
close_above None d (y ∷ ys) h a = absurd (omega (arith, a, eqb-true d 0 h))
close_above (Some q) d (y ∷ ys) h a = rw (le-ltb q y.depth (omega (arith, a, eqb-true d (q + 1) h))) refl

close_trees : (p : Option ℕ) (d : ℕ) (b : Forest) (ys : List ExpandedLine) → is_right_under p d ≡ true → HasDepths d b → IsAbove d ys
    → close_is_next p (roots (outlines (listing b ++ ys))) ≡ first_is is_close (root_sorts b)
close_trees p d Empty ys k h a = close_above p d ys k a
close_trees p d (Tree l u b) ys k h a = rw (ap (can_hold p) h.0 ∙ right_can_hold p d k) refl

-- whether the line is wrong, reported by the trees
pub reported_by_trees : (before : List Outline) (l : ExpandedLine) (u b : Forest) (ys : List ExpandedLine) → is_right_under (parent_depth before l.depth) l.depth ≡ true
    → HasDepths (l.depth + 1) u → HasDepths l.depth b → IsAbove l.depth ys
    → is_wrong before (outline l) (outlines ((listing u ++ listing b) ++ ys))
    ≡ (is_misplaced (row_at before l.depth) (elders before l.depth) (sort_of l) (first_is is_close (root_sorts b))
    || lacks (row_under (row_at before l.depth) (sort_of l)) (root_sorts u))
reported_by_trees before l u b ys k h g a =
    let rest = listing b ++ ys in
    let r = row_at before l.depth in
    let above : IsAbove (l.depth + 1) rest = above_more l.depth b ys g a in
    let split : roots (outlines ((listing u ++ listing b) ++ ys)) ≡ root_outlines u ++ roots (outlines rest)
    = ap (λ (x : List ExpandedLine). roots (outlines x)) (append_assoc (listing u) (listing b) ys) ∙ mutual_roots u (l.depth + 1) rest h above in
    let next : close_is_next (parent_depth before l.depth) (after_deeper l.depth (roots (outlines ((listing u ++ listing b) ++ ys)))) ≡ first_is is_close (root_sorts b)
    = ap (λ (x : List Outline). close_is_next (parent_depth before l.depth) (after_deeper l.depth x)) split
    ∙ ap (close_is_next (parent_depth before l.depth)) (after_deeper_trees l.depth u (roots (outlines rest)) h ∙ after_deeper_above l.depth rest above)
    ∙ close_trees (parent_depth before l.depth) l.depth b ys k g a in
    let kids : sorts (first_deeper l.depth (roots (outlines ((listing u ++ listing b) ++ ys)))) ≡ root_sorts u
    = ap (λ (x : List Outline). sorts (first_deeper l.depth x)) split ∙ ap sorts (first_deeper_trees l.depth u (roots (outlines rest)) h)
    ∙ ap (λ (x : List Outline). sorts (root_outlines u ++ x)) (first_deeper_above l.depth rest above) ∙ sorts_append (root_outlines u) ∙ sorts_roots u in
    ap (λ (c : Bool). (not (is_right_under (parent_depth before l.depth) l.depth) || is_misplaced r (elders before l.depth) (sort_of l) c)
    || lacks (row_under r (sort_of l)) (sorts (first_deeper l.depth (roots (outlines ((listing u ++ listing b) ++ ys)))))) next
    ∙ ap (λ (ss : List Sort). (not (is_right_under (parent_depth before l.depth) l.depth) || is_misplaced r (elders before l.depth) (sort_of l) (first_is is_close (root_sorts b)))
    || lacks (row_under r (sort_of l)) ss) kids
    ∙ ap (λ (x : Bool). (not x || is_misplaced r (elders before l.depth) (sort_of l) (first_is is_close (root_sorts b)))
    || lacks (row_under r (sort_of l)) (root_sorts u)) k

or_parts : (a b : Bool) → (a || b) ≡ false → (a ≡ false) × (b ≡ false)
or_parts true b e = absurd (true≢false e)
or_parts false b e = (refl, e)

pub right_kid : (l : Outline) (before : List Outline) → is_right_under (parent_depth (l ∷ before) (l.depth + 1)) (l.depth + 1) ≡ true
right_kid l before = rw (parent_kid l before (l.depth + 1) (omega arith)) (eq-eqb (l.depth + 1) (l.depth + 1) refl)

pub row_kid : (l : Outline) (before : List Outline) → row_at (l ∷ before) (l.depth + 1) ≡ row_under (row_at before l.depth) l.sort
row_kid l before = rw (lt-ltb l.depth (l.depth + 1) (omega arith)) refl

pub elders_kid : (l : Outline) (before : List Outline) → elders (l ∷ before) (l.depth + 1) ≡ []
elders_kid l before = rw (lt-ltb l.depth (l.depth + 1) (omega arith)) refl

pub judged_same : (f : Forest) (r s : Row) (es fs : List Sort) → r ≡ s → es ≡ fs → AreJudged r es f → AreJudged s fs f
judged_same f r s es fs a b h = subst (λ (x : Row). AreJudged x fs f) a (subst (λ (x : List Sort). AreJudged r x f) b h)

pub judged_from : (f : Forest) (d : ℕ) (before : List Outline) (xs : List ExpandedLine) → HasDepths d f → is_right_under (parent_depth before d) d ≡ true → IsAbove d xs
    → NoneWrong before (listing f ++ xs) → AreJudged (row_at before d) (elders before d) f × NoneWrong (onto f before) xs
judged_from Empty d before xs h k a n = (tt, n)
judged_from (Tree l u b) d before xs h k a n =
    let kid = outline l ∷ before in
    let right : is_right_under (parent_depth before l.depth) l.depth ≡ true = rw h.0 k in
    let inside : HasDepths (l.depth + 1) u = subst (λ (x : ℕ). HasDepths (x + 1) u) (sym h.0) h.1 in
    let beside : HasDepths l.depth b = subst (λ (x : ℕ). HasDepths x b) (sym h.0) h.2 in
    let above : IsAbove l.depth xs = subst (λ (x : ℕ). IsAbove x xs) (sym h.0) a in
    let here = or_parts _ _ (sym (reported_by_trees before l u b xs right inside beside above) ∙ n.0) in
    let inner = judged_from u (l.depth + 1) kid (listing b ++ xs) inside (right_kid (outline l) before) (above_more l.depth b xs beside above)
    (subst (NoneWrong kid) (append_assoc (listing u) (listing b) xs) n.1) in
    let same = after_tree l u before inside right in
    let outer = judged_from b l.depth (onto u kid) xs beside (ap (λ (p : Option ℕ). is_right_under p l.depth) same.0 ∙ right) above inner.1 in (
      subst (λ (x : ℕ). AreJudged (row_at before x) (elders before x) (Tree l u b)) h.0
          (here.0, here.1, judged_same u _ _ _ _ (row_kid (outline l) before) (elders_kid (outline l) before) inner.0, judged_same b _ _ _ _ same.1 same.2 outer.0),
      outer.1,
    )
