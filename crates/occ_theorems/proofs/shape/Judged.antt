-- The lines of trees that are as deep as their lines stand right exactly where the trees obey the table.
use Rattle.std.proofs.Common.{◌≡◌, Bool, true, false, cond, List, [], ◌∷◌, refl}
use Rattle.occ_tree.specs.declared.row.Row.{Row}
use Rattle.occ_tree.specs.declared.row.Row.TheVariants as row
use Rattle.occ_tree.specs.declared.sort.Sort.{Sort}
use Rattle.occ_tree.specs.declared.sort.Sort.TheVariants as sort
use Rattle.occ_tree.specs.Forest.{Forest, Empty, Tree}
use Rattle.occ_tree.specs.Obeys.{ObeysUnder, is_file, root_sorts, sort_of}
use Rattle.occ_tree.specs.Table.{is_main, row_under, under_main}
use Rattle.occ_tree.proofs.Arranged.{AllPlaced}
use Rattle.occ_theorems.proofs.shape.Arranged.{lacks_of, placed_of}
use Rattle.occ_tree.proofs.Judged.{AreJudged}

-- a file stands under nothing
under_main_file : (r : Row) → is_file (under_main r) ≡ false
under_main_file row.Conditions = refl
under_main_file row.Condition = refl
under_main_file row.Guards = refl
under_main_file row.Guard = refl
under_main_file row.Options = refl
under_main_file row.Variants = refl
under_main_file row.Case = refl
under_main_file _ = refl

given_file : (b : Bool) (r : Row) → is_file (cond b (under_main r) row.Nothing) ≡ false
given_file true r = under_main_file r
given_file false r = refl

pub no_file : (r : Row) (s : Sort) → is_file (row_under r s) ≡ false
no_file r sort.GlobalSpecification = given_file (is_main r sort.GlobalSpecification) r
no_file r sort.Declaration = given_file (is_main r sort.Declaration) r
no_file r sort.LocalSpecification = given_file (is_main r sort.LocalSpecification) r
no_file r sort.Close = given_file (is_main r sort.Close) r
no_file r sort.Action = given_file (is_main r sort.Action) r
no_file r sort.Input = given_file (is_main r sort.Input) r
no_file r sort.Case = given_file (is_main r sort.Case) r
no_file r sort.Result = given_file (is_main r sort.Result) r
no_file r sort.Name = given_file (is_main r sort.Name) r
no_file r sort.Call = given_file (is_main r sort.Call) r
no_file r sort.Expression = given_file (is_main r sort.Expression) r
no_file r sort.Expressions = given_file (is_main r sort.Expressions) r
no_file r sort.Tagged = given_file (is_main r sort.Tagged) r
no_file r sort.Tag = given_file (is_main r sort.Tag) r
no_file r sort.Variant = given_file (is_main r sort.Variant) r
no_file r sort.Nowhere = given_file (is_main r sort.Nowhere) r
no_file r _ = refl

pub obeys_judged : (r : Row) (es : List Sort) (f : Forest) → AllPlaced r es (root_sorts f) → ObeysUnder r f → AreJudged r es f
obeys_judged r es Empty p h = tt
obeys_judged r es (Tree l u b) p h = (
  p.0,
  lacks_of (row_under r (sort_of l)) (root_sorts u) h.0 (no_file r (sort_of l)),
  obeys_judged (row_under r (sort_of l)) [] u (placed_of (row_under r (sort_of l)) (root_sorts u) h.0) h.1,
  obeys_judged r (sort_of l ∷ es) b p.1 h.2,
)
