-- What the walk down the lines knows at each place of the parents that are open there. No definition of shape needs it.
use Rattle.std.specs.Prelude.{ℕ, true, not, ◌||◌, List, [], ◌∷◌, Option, Some, None, if◌then◌else◌}
use Rattle.occ_tree.specs.declared.outline.Outline.{Outline}
use Rattle.occ_tree.specs.declared.place.Frame.{Frame}
use Rattle.occ_tree.specs.declared.place.Open.{Open}
use Rattle.occ_tree.specs.declared.place.Place.{Place}
use Rattle.occ_tree.specs.declared.row.Row.{Row}
use Rattle.occ_tree.specs.declared.row.Row.TheVariants as row
use Rattle.occ_tree.specs.declared.sort.Sort.{Sort}
use Rattle.occ_tree.specs.inside.Elders.{elders_of}
use Rattle.occ_tree.specs.Nesting.{can_hold, elders, is_right_under, parent_depth, row_at}
use Rattle.occ_tree.specs.Siblings.{is_misplaced}
use Rattle.occ_tree.specs.Table.{row_under}

-- a parent of this depth and row, and those under it so far, the nearest first
abbrev pub frame_of : Option ℕ → Row → List Sort → Frame
frame_of d r es = record { depth = d; row = r; elders = elders_of r es }

-- the parent of a line of depth d after these
abbrev pub frame_at : List Outline → ℕ → Frame
frame_at before d = frame_of (parent_depth before d) (row_at before d) (elders before d)

-- the place of a line under that parent, under which these stand before it
abbrev pub placed_in : Outline → Frame → List Sort → Place
placed_in l f es =
    record {
      line = l;
      parent = f.depth;
      under = row_under f.row l.sort;
      wrong = not (is_right_under f.depth l.depth) || is_misplaced f.row es l.sort true;
    }

-- of a line after these
abbrev pub place_at : List Outline → Outline → Place
place_at before l = placed_in l (frame_at before l.depth) (elders before l.depth)

-- the place of each line, the last first
abbrev pub places : List Outline → List Place
places [] = []
places (b ∷ before) = place_at before b ∷ places before

-- the lines in the other order, and then those
abbrev pub turned : List Outline → List Outline → List Outline
turned [] ls = ls
turned (b ∷ before) ls = turned before (b ∷ ls)

-- without the innermost parents that cannot have a line of depth d under them
abbrev pub still_open : ℕ → List Frame → List Frame
still_open d [] = []
still_open d (f ∷ fs) = if can_hold f.depth d then f ∷ fs else still_open d fs

abbrev pub outer : List Frame → List Frame
outer [] = []
outer (f ∷ fs) = fs

-- the open parents after these lines, the innermost first
abbrev pub open_parents : List Outline → List Frame
open_parents [] = frame_of None row.File [] ∷ []
open_parents (b ∷ before) =
    frame_of (Some b.depth) (row_under (row_at before b.depth) b.sort) []
    ∷ (frame_of (parent_depth before b.depth) (row_at before b.depth) (b.sort ∷ elders before b.depth) ∷ outer (still_open b.depth (open_parents before)))

-- where the last line is a parent as well, as the innermost one
abbrev pub opened_by : Option Outline → Frame → List Frame → List Frame
opened_by None f fs = f ∷ fs
opened_by (Some l) f fs = frame_of (Some l.depth) (row_under f.row l.sort) [] ∷ (f ∷ fs)

-- the parents that are open there, the innermost first
abbrev pub opened : Open → List Frame
opened o = opened_by o.last o.innermost o.outer
