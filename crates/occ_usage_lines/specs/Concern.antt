-- Which specifications in scope concern uses: those that are names for something of which a part is used, and those for which
-- something was used, as a rule read, of which a part is written.
use Rattle.std.specs.Prelude.{ℕ, ◌+◌, Bool, true, false, ◌&&◌, ◌||◌, Option, Some, None, List, [], ◌∷◌, if◌then◌else◌}
use Rattle.std.specs.List.{list_any}
use Rattle.occ_usage_values.specs.declared.bound.Bound.{Bound}
use Rattle.occ_usage_values.specs.declared.bound.Bound.TheVariants as b
use Rattle.occ_usage_values.specs.declared.uses.Use.{Use}
use Rattle.occ_usage_conflicts.specs.Kinds.{is_write}
use Rattle.occ_usage_parts.specs.Parts.{overlap_of}
use Rattle.occ_usage_parts.specs.Selecting.{part_of}
use Rattle.occ_usage_parts.specs.declared.part.Overlap.{Overlap}
use Rattle.occ_usage_parts.specs.declared.part.Overlap.TheVariants as o
use Rattle.occ_usage_parts.specs.declared.part.Part.{Part}
use Rattle.occ_usage_parts.specs.declared.place.SelectedPart.{SelectedPart}

abbrev pub is_some : Overlap → Bool
is_some o.Apart = false
is_some o.May = true
is_some o.Must = true

-- two parts that are not apart
abbrev pub are_near : Part → Part → Bool
are_near p q = is_some (overlap_of p q)

-- a place that is not apart from a part
abbrev pub is_near : Part → Option SelectedPart → Bool
is_near q None = false
is_near q (Some p) = are_near (part_of p) q

-- a name for a place that is not apart from a part
abbrev pub names_near : Part → Bound → Bool
names_near q (b.Abbreviation place size reads) = is_near q place
names_near q (b.Value v size reads) = false
names_near q (b.Root name) = false
names_near q (b.Body uses does) = false
names_near q b.Other = false

-- what is read where it is specified
abbrev pub reads_of : Bound → List Use
reads_of (b.Abbreviation place size reads) = reads
reads_of (b.Value v size reads) = reads
reads_of (b.Root name) = []
reads_of (b.Body uses does) = []
reads_of b.Other = []

-- one of these uses is of a part that is not apart from another
abbrev pub some_near : Part → List Use → Bool
some_near p us = list_any (λ (u : Use). are_near p u.part) us

abbrev pub concerns : Bound → Use → Bool
concerns x u = names_near u.part x || (is_write u.kind && some_near u.part (reads_of x))

abbrev pub concerns_some : Bound → List Use → Bool
concerns_some x us = list_any (concerns x) us

-- the numbers of those that concern one of these uses: the first has number n
abbrev pub concerned : ℕ → List Bound → List Use → List ℕ
concerned n [] us = []
concerned n (x ∷ xs) us = if concerns_some x us then n ∷ concerned (n + 1) xs us else concerned (n + 1) xs us
