-- How parts lie to one another. A part is a root and selectors; what lies in it are the elements to which steps lead from
-- the root that are selected one by one.
use Rattle.std.specs.Prelude.{◌≡◌, ℕ, ◌==◌, ℤ, Bool, true, false, not, ◌&&◌, ◌||◌, List, [], ◌∷◌, if◌then◌else◌}
use Rattle.std.specs.List.{list_any}
use Rattle.std.specs.Str.{bytes_eq}
use Rattle.occ_types.specs.declared.interface.Mark.{Mark}
use Rattle.occ_types.specs.declared.interface.Mark.TheVariants as mark
use Rattle.occ_types.specs.declared.interface.PartSelector.{PartSelector}
use Rattle.occ_types.specs.declared.interface.PartSelector.TheVariants as s
use Rattle.occ_usage_parts.specs.declared.part.Overlap.{Overlap}
use Rattle.occ_usage_parts.specs.declared.part.Overlap.TheVariants as o
use Rattle.occ_usage_parts.specs.declared.part.Part.{Part}
use Rattle.occ_usage_parts.specs.Places.{holds, is_none, meet}

-- from an element to its field of a name, or to its component at a place
pub data Step : Type 0 where
  To : List ℕ → Step
  At : ℤ → Step

abbrev pub selects : PartSelector → Step → Bool
selects (s.Field m) (To n) = bytes_eq m n
selects (s.Field m) (At x) = false
selects (s.Interval i) (To n) = false
selects (s.Interval i) (At x) = holds i.places x

-- the steps lead to an element that lies in what is selected
abbrev pub lies : List PartSelector → List Step → Bool
lies [] steps = true
lies (x ∷ xs) [] = false
lies (x ∷ xs) (t ∷ ts) = selects x t && lies xs ts

-- some element lies in both
abbrev pub Meet : List PartSelector → List PartSelector → Type 0
Meet xs ys = (steps : List Step) × (lies xs steps ≡ true) × (lies ys steps ≡ true)

-- ---- the same by computation

abbrev pub is_empty : PartSelector → Bool
is_empty (s.Field m) = false
is_empty (s.Interval i) = is_none i.places

abbrev pub has_empty : List PartSelector → Bool
has_empty xs = list_any is_empty xs

-- two selectors of one depth lead to nothing in common: fields of different names, or intervals that do not meet
abbrev pub differ : PartSelector → PartSelector → Bool
differ (s.Field m) (s.Field n) = not (bytes_eq m n)
differ (s.Field m) (s.Interval j) = true
differ (s.Interval i) (s.Field n) = true
differ (s.Interval i) (s.Interval j) = not (meet i.places j.places)

-- at some common depth
abbrev pub some_differ : List PartSelector → List PartSelector → Bool
some_differ [] ys = false
some_differ (x ∷ xs) [] = false
some_differ (x ∷ xs) (y ∷ ys) = differ x y || some_differ xs ys

abbrev pub are_apart : List PartSelector → List PartSelector → Bool
are_apart xs ys = has_empty xs || has_empty ys || some_differ xs ys

abbrev pub is_sure_mark : Mark → Bool
is_sure_mark mark.Sure = true
is_sure_mark mark.Unsure = false

abbrev pub is_sure : PartSelector → Bool
is_sure (s.Field m) = true
is_sure (s.Interval i) = is_sure_mark i.mark

-- at each common depth
abbrev pub all_sure : List PartSelector → List PartSelector → Bool
all_sure [] ys = true
all_sure (x ∷ xs) [] = true
all_sure (x ∷ xs) (y ∷ ys) = is_sure x && is_sure y && all_sure xs ys

abbrev pub overlap_of_selectors : List PartSelector → List PartSelector → Overlap
overlap_of_selectors xs ys = if are_apart xs ys then o.Apart else if all_sure xs ys then o.Must else o.May

-- what two parts have in common: nothing, something for sure, or perhaps something
abbrev pub overlap_of : Part → Part → Overlap
overlap_of a b = if a.root == b.root then overlap_of_selectors a.selectors b.selectors else o.Apart
