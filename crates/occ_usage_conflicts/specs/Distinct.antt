-- Uses of a list, each once.
use Rattle.std.specs.Prelude.{◌==◌, Bool, true, false, ◌&&◌, List, [], ◌∷◌, ◌++◌, if◌then◌else◌}
use Rattle.std.specs.List.{list_any}
use Rattle.std.specs.Ordering.{int_eq}
use Rattle.std.specs.Str.{bytes_eq}
use Rattle.occ_project.specs.declared.expanded.Location.{Location}
use Rattle.occ_usage_values.specs.Uses.{at_line}
use Rattle.occ_usage_values.specs.declared.uses.Use.{Use}
use Rattle.occ_types.specs.declared.interface.Mark.{Mark}
use Rattle.occ_types.specs.declared.interface.Mark.TheVariants as mark
use Rattle.occ_types.specs.declared.interface.PartSelector.{PartSelector}
use Rattle.occ_types.specs.declared.interface.PartSelector.TheVariants as s
use Rattle.occ_types.specs.declared.interface.Places.{Places}
use Rattle.occ_types.specs.declared.interface.Places.TheVariants as places
use Rattle.occ_usage_conflicts.specs.Kinds.{same_kind}

-- ---- whether two of them are one: the same in each of their parts

abbrev pub same_mark : Mark → Mark → Bool
same_mark mark.Sure mark.Sure = true
same_mark mark.Sure mark.Unsure = false
same_mark mark.Unsure mark.Sure = false
same_mark mark.Unsure mark.Unsure = true

abbrev pub same_places : Places → Places → Bool
same_places places.None places.None = true
same_places places.None places.All = false
same_places places.None (places.From b) = false
same_places places.None (places.Run b m) = false
same_places places.All places.None = false
same_places places.All places.All = true
same_places places.All (places.From b) = false
same_places places.All (places.Run b m) = false
same_places (places.From a) places.None = false
same_places (places.From a) places.All = false
same_places (places.From a) (places.From b) = int_eq a b
same_places (places.From a) (places.Run b m) = false
same_places (places.Run a n) places.None = false
same_places (places.Run a n) places.All = false
same_places (places.Run a n) (places.From b) = false
same_places (places.Run a n) (places.Run b m) = int_eq a b && n == m

abbrev pub same_selector : PartSelector → PartSelector → Bool
same_selector (s.Field m) (s.Field n) = bytes_eq m n
same_selector (s.Field m) (s.Interval j) = false
same_selector (s.Interval i) (s.Field n) = false
same_selector (s.Interval i) (s.Interval j) = same_mark i.mark j.mark && same_places i.places j.places

abbrev pub same_selectors : List PartSelector → List PartSelector → Bool
same_selectors [] [] = true
same_selectors [] (y ∷ ys) = false
same_selectors (x ∷ xs) [] = false
same_selectors (x ∷ xs) (y ∷ ys) = same_selector x y && same_selectors xs ys

abbrev pub same_use : Use → Use → Bool
same_use u v =
    u.part.root == v.part.root && same_kind u.kind v.kind && u.line.line == v.line.line
    && same_selectors u.part.selectors v.part.selectors && bytes_eq u.chain v.chain && bytes_eq u.line.file v.line.file

-- ---- each once

-- a use is among these
abbrev pub is_among : List Use → Use → Bool
is_among found u = list_any (λ (x : Use). same_use x u) found

-- one use more, if it is not among them
abbrev pub added : Use → List Use → List Use
added u found = if is_among found u then found else found ++ u ∷ []

-- each once, the last of them first
abbrev pub distinct : List Use → List Use
distinct [] = []
distinct (u ∷ us) = added u (distinct us)

-- ---- uses of one line

-- these too, each once, as uses of the line
abbrev pub gathered : Location → List Use → List Use → List Use
gathered line found [] = found
gathered line found (u ∷ us) = gathered line (added (at_line u line) found) us
