-- A unit has no diagnostic of shape exactly where trees that obey the table list its lines.
use Rattle.std.proofs.Common.{◌≡◌, ◌∙◌, List, [], refl, sym, subst}
use Rattle.std.proofs.lemmas.List.{append-nil}
use Rattle.occ_project.specs.declared.expanded.ExpandedLine.{ExpandedLine}
use Rattle.occ_tree.specs.declared.row.Row.TheVariants as row
use Rattle.occ_tree.specs.declared.tree.Node.{Node}
use Rattle.occ_tree.specs.Faults.{shape_faults}
use Rattle.occ_tree.specs.Forest.{Forest, forest_of, listing, nested}
use Rattle.occ_tree.specs.Obeys.{AreShallow, IsTreesOf, Obeys}
use Rattle.occ_tree.specs.Shapes.{IsShapeOf}
use Rattle.occ_tree.proofs.Clean.{NoneWrong, clean_trees, none_wrong}
use Rattle.occ_tree.proofs.Context.{judged_from}
use Rattle.occ_tree.proofs.Judged.{AreJudged, file_obeys, judged_obeys}

judged_clean : (ls : List ExpandedLine) (f : Forest) → IsTreesOf ls f → NoneWrong [] ls → AreJudged row.File [] f
judged_clean ls f t n =
    (judged_from f 0 [] [] t.0 refl tt (subst (NoneWrong []) (sym (append-nil (listing f) ∙ t.1)) n)).0

clean_obeys : (ls : List ExpandedLine) (f : Forest) → IsTreesOf ls f → NoneWrong [] ls → Obeys f
clean_obeys ls f t n =
    let judged = judged_clean ls f t n in
    (file_obeys f judged, judged_obeys row.File [] f judged)

pub has_shape : (ls : List ExpandedLine) → shape_faults ls ≡ [] → (f : Forest) → IsTreesOf ls f → IsTreesOf ls f × Obeys f × AreShallow ls
has_shape ls e f t =
    let clean = none_wrong ls e in
    (t, clean_obeys ls f t clean.0, clean.1)

-- the trees that nest the lines are those of the unit
pub nested_shape : (ls : List ExpandedLine) (roots : List Node) → shape_faults ls ≡ [] → forest_of roots ≡ nested ls → IsShapeOf ls roots
nested_shape ls roots e n = has_shape ls e (forest_of roots) (subst (IsTreesOf ls) (sym n) (clean_trees ls e))
