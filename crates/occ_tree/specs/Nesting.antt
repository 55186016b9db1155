-- Which lines stand under which: the parent of a line is the last earlier line of smaller depth.
use Rattle.std.specs.Prelude.{ℕ, Bool, true, ◌==◌, ◌+◌, List, [], ◌∷◌, Option, Some, None, nat_lt, if◌then◌else◌}
use Rattle.occ_tree.specs.declared.outline.Outline.{Outline}
use Rattle.occ_tree.specs.declared.row.Row.{Row}
use Rattle.occ_tree.specs.declared.row.Row.TheVariants as row
use Rattle.occ_tree.specs.declared.sort.Sort.{Sort}
use Rattle.occ_tree.specs.Table.{row_under}

-- a parent of this depth can have a line of depth d under it, and so can the file
abbrev pub can_hold : Option ℕ → ℕ → Bool
can_hold None d = true
can_hold (Some parent) d = nat_lt parent d

-- the line is as deep as one right under that parent
abbrev pub is_right_under : Option ℕ → ℕ → Bool
is_right_under None d = d == 0
is_right_under (Some parent) d = d == parent + 1

-- the depth of the parent of a line of depth d that these lines stand before, the nearest first
abbrev pub parent_depth : List Outline → ℕ → Option ℕ
parent_depth [] d = None
parent_depth (b ∷ before) d = if nat_lt b.depth d then Some b.depth else parent_depth before d

-- the row under its parent
abbrev pub row_at : List Outline → ℕ → Row
row_at [] d = row.File
row_at (b ∷ before) d = if nat_lt b.depth d then row_under (row_at before b.depth) b.sort else row_at before d

-- its siblings before it, which have the same parent, the nearest first
abbrev pub elders : List Outline → ℕ → List Sort
elders [] d = []
elders (b ∷ before) d =
    if nat_lt b.depth d then [] else (if can_hold (parent_depth before b.depth) d then b.sort ∷ elders before d else elders before d)

-- those deeper than d that come first
abbrev pub first_deeper : ℕ → List Outline → List Outline
first_deeper d [] = []
first_deeper d (l ∷ ls) = if nat_lt d l.depth then l ∷ first_deeper d ls else []

-- and the lines after them
abbrev pub after_deeper : ℕ → List Outline → List Outline
after_deeper d [] = []
after_deeper d (l ∷ ls) = if nat_lt d l.depth then after_deeper d ls else l ∷ ls

-- those of the lines whose parent is none of the others
abbrev pub roots : List Outline → List Outline
roots [] = []
roots (l ∷ ls) = l ∷ after_deeper l.depth (roots ls)

abbrev pub sorts : List Outline → List Sort
sorts [] = []
sorts (l ∷ ls) = l.sort ∷ sorts ls

-- those of which a line of depth d is the parent, which these lines stand after
abbrev pub children : ℕ → List Outline → List Sort
children d after = sorts (first_deeper d (roots after))
