-- The trees that obey the table of what may stand under which line.
use Rattle.std.specs.Prelude.{◌≡◌, ◌≤◌, ◌+◌, ℕ, Bool, true, false, List, [], ◌∷◌, length}
use Rattle.occ_project.specs.declared.expanded.ExpandedLine.{ExpandedLine}
use Rattle.occ_tree.specs.declared.row.Row.{Row}
use Rattle.occ_tree.specs.declared.row.Row.TheVariants as row
use Rattle.occ_tree.specs.declared.sort.Sort.{Sort}
use Rattle.occ_tree.specs.declared.sort.Sort.TheVariants as sort
use Rattle.occ_tree.specs.Forest.{Forest, Empty, Tree, listing}
use Rattle.occ_tree.specs.Sorts.{body_sort}
use Rattle.occ_tree.specs.Table.{is_head, is_list, is_main, is_process, is_single, is_value, lets_line, row_under, takes_specifications}

-- a specification: one line, or a head and its close
pub data Opening : Type 0 where
  OneLine : Sort → Opening
  Headed : Sort → Opening

-- its lines, and then those that follow
abbrev pub opening_sorts : Opening → List Sort → List Sort
opening_sorts (OneLine s) k = s ∷ k
opening_sorts (Headed s) k = s ∷ (sort.Close ∷ k)

abbrev pub openings_sorts : List Opening → List Sort → List Sort
openings_sorts [] k = k
openings_sorts (o ∷ os) k = opening_sorts o (openings_sorts os k)

-- the row lets the specification stand
abbrev pub IsOpening : Row → Opening → Type 0
IsOpening r (OneLine s) = lets_line r s ≡ true
IsOpening r (Headed s) = (takes_specifications r ≡ true) × (is_head s ≡ true)

abbrev pub AreOpenings : Row → List Opening → Type 0
AreOpenings r [] = Unit {0}
AreOpenings r (o ∷ os) = IsOpening r o × AreOpenings r os

-- an item: specifications, and then one main line
pub record Item : Type 0 where
  pub openings : List Opening
  pub main : Sort

abbrev pub items_sorts : List Item → List Sort → List Sort
items_sorts [] k = k
items_sorts (i ∷ is) k = openings_sorts i.openings (i.main ∷ items_sorts is k)

abbrev pub AreItems : Row → List Item → Type 0
AreItems r [] = Unit {0}
AreItems r (i ∷ is) = AreOpenings r i.openings × (is_main r i.main ≡ true) × AreItems r is

-- a process with its specifications, and RESULT directly after it
abbrev pub IsValue : List Item → Type 0
IsValue [] = ⊥
IsValue (i ∷ []) = ⊥
IsValue (i ∷ j ∷ []) = (is_process i.main ≡ true) × (j.openings ≡ []) × (j.main ≡ sort.Result)
IsValue (i ∷ j ∷ k ∷ is) = ⊥

abbrev pub is_file : Row → Bool
is_file row.File = true
is_file _ = false

-- lines of these sorts may stand under a parent of the row: items, as many as the row asks for, and in a file
-- specifications alone
pub record Fits (r : Row) (ss : List Sort) : Type 0 where
  pub items : List Item
  pub last : List Opening
  pub are_items : AreItems r items
  pub are_openings : AreOpenings r last
  pub spelled : ss ≡ items_sorts items (openings_sorts last [])
  pub one : is_single r ≡ true → length items ≡ 1
  pub some : is_list r ≡ true → 1 ≤ length items
  pub value : is_value r ≡ true → IsValue items
  pub alone : is_file r ≡ false → last ≡ []

abbrev pub sort_of : ExpandedLine → Sort
sort_of l = body_sort l.body

-- of the lines that stand under no other
abbrev pub root_sorts : Forest → List Sort
root_sorts Empty = []
root_sorts (Tree l under following) = sort_of l ∷ root_sorts following

-- each line is as deep as it stands in the trees, these being under d others
abbrev pub HasDepths : ℕ → Forest → Type 0
HasDepths d Empty = Unit {0}
HasDepths d (Tree l under following) = (l.depth ≡ d) × HasDepths (d + 1) under × HasDepths d following

-- under each of the lines, which stand in the row, stands what may
abbrev pub ObeysUnder : Row → Forest → Type 0
ObeysUnder r Empty = Unit {0}
ObeysUnder r (Tree l under following) =
    Fits (row_under r (sort_of l)) (root_sorts under) × ObeysUnder (row_under r (sort_of l)) under × ObeysUnder r following

-- the trees of a file that obey the table
abbrev pub Obeys : Forest → Type 0
Obeys f = Fits row.File (root_sorts f) × ObeysUnder row.File f

-- trees that list the lines, each as deep as it stands in them
abbrev pub IsTreesOf : List ExpandedLine → Forest → Type 0
IsTreesOf ls f = HasDepths 0 f × (listing f ≡ ls)

-- no line is deeper than 64 levels
abbrev pub AreShallow : List ExpandedLine → Type 0
AreShallow [] = Unit {0}
AreShallow (l ∷ ls) = (l.depth ≤ 64) × AreShallow ls
