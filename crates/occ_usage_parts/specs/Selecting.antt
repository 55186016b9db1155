-- What is selected from an element: its place, which may be selected from further, and the part that it is.
use Rattle.std.specs.Prelude.{ℕ, ℤ, pos, ◌+ℤ◌, ◌-ℤ◌, int_le, unsigned_abs, Option, Some, None, List, [], ◌∷◌, ◌++◌, if◌then◌else◌}
use Rattle.occ_types.specs.declared.interface.Interval.{Interval}
use Rattle.occ_types.specs.declared.interface.Mark.{Mark}
use Rattle.occ_types.specs.declared.interface.Mark.TheVariants as mark
use Rattle.occ_types.specs.declared.interface.PartSelector.{PartSelector}
use Rattle.occ_types.specs.declared.interface.PartSelector.TheVariants as s
use Rattle.occ_types.specs.declared.interface.Places.{Places}
use Rattle.occ_types.specs.declared.interface.Places.TheVariants as places
use Rattle.occ_usage_parts.specs.declared.part.Part.{Part}
use Rattle.occ_usage_parts.specs.declared.place.Ending.{Ending}
use Rattle.occ_usage_parts.specs.declared.place.Ending.TheVariants as e
use Rattle.occ_usage_parts.specs.declared.place.SelectedPart.{SelectedPart}
use Rattle.occ_usage_parts.specs.Places.{common, moved, near}

abbrev pub sure : Places → Interval
sure ps = record { mark = mark.Sure; places = ps }

abbrev pub unsure : Places → Interval
unsure ps = record { mark = mark.Unsure; places = ps }

-- ---- the intervals of subscripts and segments, each number given if it is known

abbrev pub subscript : Option ℤ → Interval
subscript None = unsure places.All
subscript (Some k) = sure (places.Run k 0)

-- so many places from b on; a number of them that no run can have is without end
abbrev pub counted : ℤ → ℤ → Places
counted b n = if int_le n (pos 0) then places.None else if int_le n (pos 4294967296) then places.Run b (unsigned_abs (n -ℤ pos 1)) else places.From b

abbrev pub segment : Option ℤ → Option ℤ → Interval
segment None count = unsure places.All
segment (Some b) None = unsure (places.From b)
segment (Some b) (Some n) = sure (counted b n)

-- ---- an interval of a segment

abbrev pub cut_to : Interval → Mark → Option Places → Interval
cut_to outer m None = unsure outer.places
cut_to outer m (Some ps) = record { mark = m; places = common outer.places ps }

-- Counted from where the segment begins, if that is known, and cut to it; else the segment, unsure. Where counting leaves
-- the numbers of 64 bits, which no text reaches, this is not known.
abbrev pub inside : Interval → Option ℤ → Interval → Interval
inside outer None inner = unsure outer.places
inside outer (Some b) inner = cut_to outer inner.mark (moved b inner.places)

-- where a segment of a segment begins
abbrev pub following : Option ℤ → Option ℤ → Option ℤ
following None base = None
following (Some b) None = None
following (Some b) (Some c) = near (b +ℤ c)

-- ---- places

abbrev pub whole : ℕ → SelectedPart
whole root = record { root = root; chain = []; selectors = []; ending = e.Plain }

-- the selectors, with those of an ending segment
abbrev pub selectors_of : List PartSelector → Ending → List PartSelector
selectors_of xs e.Plain = xs
selectors_of xs (e.Segment i base) = xs ++ s.Interval i ∷ []
selectors_of xs e.Whole = xs

abbrev pub part_of : SelectedPart → Part
part_of p = record { root = p.root; selectors = selectors_of p.selectors p.ending }

-- selected from by one more selector
abbrev pub plain : SelectedPart → List PartSelector → SelectedPart
plain p xs = record p { selectors = xs; ending = e.Plain }

abbrev pub with_field_of : SelectedPart → Ending → List ℕ → SelectedPart
with_field_of p e.Whole name = p
with_field_of p e.Plain name = plain p (p.selectors ++ s.Field name ∷ [])
with_field_of p (e.Segment i base) name = plain p (p.selectors ++ s.Interval i ∷ [] ++ s.Field name ∷ [])

abbrev pub with_field : SelectedPart → List ℕ → SelectedPart
with_field p name = with_field_of p p.ending name

abbrev pub with_subscript_of : SelectedPart → Ending → Interval → SelectedPart
with_subscript_of p e.Whole i = p
with_subscript_of p e.Plain i = plain p (p.selectors ++ s.Interval i ∷ [])
with_subscript_of p (e.Segment outer base) i = plain p (p.selectors ++ s.Interval (inside outer base i) ∷ [])

abbrev pub with_subscript : SelectedPart → Option ℤ → SelectedPart
with_subscript p at = with_subscript_of p p.ending (subscript at)

abbrev pub segment_ending : Ending → Option ℤ → Interval → Ending
segment_ending e.Whole base i = e.Whole
segment_ending e.Plain base i = e.Segment i base
segment_ending (e.Segment outer b) base i = e.Segment (inside outer b i) (following b base)

abbrev pub with_segment : SelectedPart → Option ℤ → Option ℤ → SelectedPart
with_segment p base count = record p { ending = segment_ending p.ending base (segment base count) }

-- by a name that RETYPES or RESHAPES gives it: whatever is selected then, it is all of it
abbrev pub retyped : SelectedPart → SelectedPart
retyped p = record p { selectors = selectors_of p.selectors p.ending; ending = e.Whole }

-- by the name of one more abbreviation
abbrev pub named : SelectedPart → ℕ → SelectedPart
named p number = record p { chain = p.chain ++ number ∷ [] }

-- ---- a part of a formal, of which the place is the actual

abbrev pub first_inside : Interval → Option ℤ → List PartSelector → List PartSelector
first_inside outer base [] = s.Interval outer ∷ []
first_inside outer base (s.Field name ∷ xs) = s.Interval outer ∷ s.Field name ∷ xs
first_inside outer base (s.Interval i ∷ xs) = s.Interval (inside outer base i) ∷ xs

-- the selectors of the formal after those of the actual
abbrev pub followed : List PartSelector → Ending → List PartSelector → List PartSelector
followed xs e.Plain ys = xs ++ ys
followed xs (e.Segment outer base) ys = xs ++ first_inside outer base ys
followed xs e.Whole ys = xs

abbrev pub followed_by : SelectedPart → List PartSelector → Part
followed_by p ys = record { root = p.root; selectors = followed p.selectors p.ending ys }
