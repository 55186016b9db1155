-- What the lines of a unit without a diagnostic of shape are.
use Rattle.std.proofs.Common.{◌≡◌, ◌∷◌, ◌++◌, ◌||◌, not, Bool, true, false, ltb, List, [], refl}
use Rattle.std.proofs.lemmas.Bool.{ltb-false, true≢false}
use Rattle.occ_base.specs.declared.code.Code.TheVariants as code
use Rattle.occ_base.specs.declared.diag.Diag.{Diag}
use Rattle.occ_base.specs.Errors.{error_if}
use Rattle.occ_project.specs.declared.expanded.ExpandedLine.{ExpandedLine}
use Rattle.occ_tree.specs.declared.outline.Outline.{Outline}
use Rattle.occ_tree.specs.Faults.{faults_at, shape_faults}
use Rattle.occ_tree.specs.Forest.{nested}
use Rattle.occ_tree.specs.Obeys.{AreShallow, IsTreesOf}
use Rattle.occ_tree.specs.Sorts.{outline, outlines}
use Rattle.occ_tree.specs.Wrong.{is_wrong, wrong_from}
use Rattle.occ_tree.proofs.Exact.{AreRight, nested_depths}
use Rattle.occ_tree.proofs.Listed.{listing_nested}

-- none of them is wrong
abbrev pub NoneWrong : List Outline → List ExpandedLine → Type 0
NoneWrong before [] = Unit {0}
NoneWrong before (l ∷ ls) = (is_wrong before (outline l) (outlines ls) ≡ false) × NoneWrong (outline l ∷ before) ls

one_reported : (v w : Bool) (l : ExpandedLine) (ds : List Diag) → (error_if v l.file l.line code.S2 ++ error_if w l.file l.line code.S4) ++ ds ≡ []
    → (v ≡ false) × (w ≡ false) × (ds ≡ [])
one_reported true w l ds e = absurd cc
one_reported false true l ds e = absurd cc
one_reported false false l ds e = (refl, refl, e)

none_wrong_from : (before : List Outline) (ls : List ExpandedLine) → faults_at ls (wrong_from before (outlines ls)) ≡ [] → NoneWrong before ls × AreShallow ls
none_wrong_from before [] e = (tt, tt)
none_wrong_from before (l ∷ ls) e =
    let here = one_reported (is_wrong before (outline l) (outlines ls)) (ltb 64 l.depth) l (faults_at ls (wrong_from (outline l ∷ before) (outlines ls))) e in
    let rest = none_wrong_from (outline l ∷ before) ls here.2 in
    ((here.0, rest.0), (ltb-false 64 l.depth here.1, rest.1))

pub none_wrong : (ls : List ExpandedLine) → shape_faults ls ≡ [] → NoneWrong [] ls × AreShallow ls
none_wrong ls e = none_wrong_from [] ls e

or_first : (a b : Bool) → (a || b) ≡ false → a ≡ false
or_first true b e = e
or_first false b e = refl

not_false : (a : Bool) → not a ≡ false → a ≡ true
not_false true e = refl
not_false false e = absurd (true≢false e)

right_of : (before : List Outline) (ls : List ExpandedLine) → NoneWrong before ls → AreRight before ls
right_of before [] h = tt
right_of before (l ∷ ls) h = (not_false _ (or_first _ _ (or_first _ _ h.0)), right_of (outline l ∷ before) ls h.1)

-- the trees in which each line stands under the last earlier one of smaller depth list lines without a diagnostic
pub clean_trees : (ls : List ExpandedLine) → shape_faults ls ≡ [] → IsTreesOf ls (nested ls)
clean_trees ls e = (nested_depths ls (right_of [] ls (none_wrong ls e).0), listing_nested ls)
