-- The lines of trees that are as deep as their lines stand right exactly where the trees obey the table.
use Rattle.std.proofs.Common.{◌≡◌, false, List, [], ◌∷◌}
use Rattle.std.proofs.lemmas.Bool.{true≢false}
use Rattle.occ_tree.specs.declared.row.Row.{Row}
use Rattle.occ_tree.specs.declared.row.Row.TheVariants as row
use Rattle.occ_tree.specs.declared.sort.Sort.{Sort}
use Rattle.occ_tree.specs.Forest.{Forest, Empty, Tree}
use Rattle.occ_tree.specs.Obeys.{Fits, ObeysUnder, root_sorts, sort_of}
use Rattle.occ_tree.specs.Siblings.{first_is, is_misplaced, lacks}
use Rattle.occ_tree.specs.Table.{is_close, row_under}
use Rattle.occ_tree.proofs.Arranged.{AllPlaced, fits_of}

-- none of the lines is misplaced after those, and none lacks something
abbrev pub AreJudged : Row → List Sort → Forest → Type 0
AreJudged r es Empty = Unit {0}
AreJudged r es (Tree l u b) =
    (is_misplaced r es (sort_of l) (first_is is_close (root_sorts b)) ≡ false)
    × (lacks (row_under r (sort_of l)) (root_sorts u) ≡ false)
    × AreJudged (row_under r (sort_of l)) [] u × AreJudged r (sort_of l ∷ es) b

judged_placed : (r : Row) (es : List Sort) (f : Forest) → AreJudged r es f → AllPlaced r es (root_sorts f)
judged_placed r es Empty h = tt
judged_placed r es (Tree l u b) h = (h.0, judged_placed r (sort_of l ∷ es) b h.3)

pub judged_obeys : (r : Row) (es : List Sort) (f : Forest) → AreJudged r es f → ObeysUnder r f
judged_obeys r es Empty h = tt
judged_obeys r es (Tree l u b) h = (
  fits_of (row_under r (sort_of l)) (root_sorts u) (judged_placed (row_under r (sort_of l)) [] u h.2) (λ _. h.1),
  judged_obeys (row_under r (sort_of l)) [] u h.2,
  judged_obeys r (sort_of l ∷ es) b h.3,
)

pub file_obeys : (f : Forest) → AreJudged row.File [] f → Fits row.File (root_sorts f)
file_obeys f h = fits_of row.File (root_sorts f) (judged_placed row.File [] f h) (λ n. absurd (true≢false n))
