-- A unit has no diagnostic of shape exactly where trees that obey the table list its lines.
use Rattle.std.proofs.Common.{◌≡◌, ◌∙◌, ◌↔◌, List, [], ◌∷◌, refl, subst}
use Rattle.std.proofs.lemmas.Bool.{le-ltb}
use Rattle.std.proofs.lemmas.List.{append-nil}
use Rattle.occ_project.specs.declared.expanded.ExpandedLine.{ExpandedLine}
use Rattle.occ_tree.specs.declared.outline.Outline.{Outline}
use Rattle.occ_tree.specs.declared.row.Row.TheVariants as row
use Rattle.occ_tree.specs.Faults.{faults_at, shape_faults}
use Rattle.occ_tree.specs.Forest.{Forest, listing, nested}
use Rattle.occ_tree.specs.Obeys.{AreShallow, IsTreesOf, Obeys, root_sorts}
use Rattle.occ_tree.specs.Shapes.{HasShape}
use Rattle.occ_tree.specs.Sorts.{outline, outlines}
use Rattle.occ_tree.specs.Wrong.{wrong_from}
use Rattle.occ_theorems.proofs.shape.Arranged.{placed_of}
use Rattle.occ_tree.proofs.Clean.{NoneWrong, clean_trees}
use Rattle.occ_theorems.proofs.shape.Context.{judged_back}
use Rattle.occ_theorems.proofs.shape.Judged.{obeys_judged}
use Rattle.occ_theorems.proofs.shape.Listed.{one_trees}
use Rattle.occ_tree.proofs.Lawful.{has_shape}

obeys_clean : (ls : List ExpandedLine) (f : Forest) → IsTreesOf ls f → Obeys f → NoneWrong [] ls
obeys_clean ls f t o =
    let judged = obeys_judged row.File [] f (placed_of row.File (root_sorts f) o.0) o.1 in
    subst (NoneWrong []) (append-nil (listing f) ∙ t.1) (judged_back f 0 [] [] t.0 refl tt judged tt)

none_reported : (before : List Outline) (ls : List ExpandedLine) → NoneWrong before ls → AreShallow ls → faults_at ls (wrong_from before (outlines ls)) ≡ []
none_reported before [] n s = refl
none_reported before (l ∷ ls) n s = rw n.0 (rw (le-ltb 64 l.depth s.0) (none_reported (outline l ∷ before) ls n.1 s.1))

pub shape_law : (ls : List ExpandedLine) → (shape_faults ls ≡ []) ↔ HasShape ls
shape_law ls = (
  λ e. let shape = has_shape ls e (nested ls) (clean_trees ls e) in (nested ls, shape.0, shape.1, shape.2),
  λ h. none_reported [] ls (obeys_clean ls h.0 h.1 h.2) h.3,
)

pub one_law : (ls : List ExpandedLine) (f g : Forest) → IsTreesOf ls f → IsTreesOf ls g → f ≡ g
one_law = one_trees
