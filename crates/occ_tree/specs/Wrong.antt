-- Which lines of a unit stand wrong.
use Rattle.std.specs.Prelude.{ℕ, Bool, false, not, ◌&&◌, ◌||◌, List, [], ◌∷◌, Option}
use Rattle.occ_tree.specs.declared.outline.Outline.{Outline}
use Rattle.occ_tree.specs.Nesting.{after_deeper, can_hold, children, elders, is_right_under, parent_depth, roots, row_at}
use Rattle.occ_tree.specs.Siblings.{is_misplaced, lacks}
use Rattle.occ_tree.specs.Table.{is_close, row_under}

-- of lines that stand under none of each other the first one is a close under a parent of that depth
abbrev pub close_is_next : Option ℕ → List Outline → Bool
close_is_next parent [] = false
close_is_next parent (l ∷ ls) = can_hold parent l.depth && is_close l.sort

-- the next line under its parent is a close; the lines before are given with the nearest first
abbrev pub stands_before_close : List Outline → Outline → List Outline → Bool
stands_before_close before l after = close_is_next (parent_depth before l.depth) (after_deeper l.depth (roots after))

-- the line stands at the wrong depth or where it may not
abbrev pub stands_wrong : List Outline → Outline → List Outline → Bool
stands_wrong before l after =
    not (is_right_under (parent_depth before l.depth) l.depth)
    || is_misplaced (row_at before l.depth) (elders before l.depth) l.sort (stands_before_close before l after)

-- it lacks something under it
abbrev pub lacks_something : List Outline → Outline → List Outline → Bool
lacks_something before l after = lacks (row_under (row_at before l.depth) l.sort) (children l.depth after)

abbrev pub is_wrong : List Outline → Outline → List Outline → Bool
is_wrong before l after = stands_wrong before l after || lacks_something before l after

-- for each line after those before
abbrev pub wrong_from : List Outline → List Outline → List Bool
wrong_from before [] = []
wrong_from before (l ∷ after) = is_wrong before l after ∷ wrong_from (l ∷ before) after

-- for each line of a unit
abbrev pub wrong : List Outline → List Bool
wrong ls = wrong_from [] ls
