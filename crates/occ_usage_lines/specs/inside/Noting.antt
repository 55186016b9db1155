-- The numbers of specifications in lists, by the parts that they name or read.
use Rattle.std.specs.Prelude.{◌≡◌, ◌<◌, ◌==◌, ◌+◌, ◌*◌, ◌%◌, ℕ, Bool, true, false, ◌&&◌, ◌||◌, Option, Some, None, List, [], ◌-◌, length, slice_get, nat_le}
use Rattle.std.specs.List.{list_any}
use Rattle.occ_types.specs.declared.interface.PartSelector.{PartSelector}
use Rattle.occ_usage_conflicts.specs.inside.Beginning.{list_of}
use Rattle.occ_usage_values.specs.declared.bound.Bound.{Bound}
use Rattle.occ_usage_values.specs.declared.bound.Bound.TheVariants as b
use Rattle.occ_usage_values.specs.declared.uses.Use.{Use}
use Rattle.occ_usage_conflicts.specs.Kinds.{is_write}
use Rattle.occ_usage_parts.specs.declared.place.SelectedPart.{SelectedPart}
use Rattle.occ_usage_lines.specs.Concern.{concerns, concerns_some, reads_of}
use Rattle.occ_usage_lines.specs.declared.scope.UsageScope.TheInside.{Inside}

-- ---- the lists of parts, by number

-- how a part begins: with which field or place, if it is one
abbrev pub beginning_of : List PartSelector → Option ℕ
beginning_of xs = list_of xs 1021

-- that of the parts of a root that begin otherwise
abbrev pub whole_list : ℕ → ℕ
whole_list root = (root % 1021) * 3

-- that of the parts of a root that begin with a field or one place
abbrev pub begun_list : ℕ → ℕ
begun_list root = (root % 1021) * 3 + 1

-- that of the parts of a root that begin with this field or place
abbrev pub like_list : ℕ → ℕ → ℕ
like_list root k = ((root % 1021 + k) % 1021) * 3 + 2

-- a list in which a part of this root is noted, which begins so
abbrev pub is_in_list : ℕ → ℕ → Option ℕ → Bool
is_in_list list root None = whole_list root == list
is_in_list list root (Some k) = begun_list root == list || like_list root k == list

-- the list that is asked for it, beside that of the whole of its root
abbrev pub asked_list : ℕ → Option ℕ → ℕ
asked_list root None = begun_list root
asked_list root (Some k) = like_list root k

-- a list of this place
abbrev pub is_placed_in : ℕ → Option SelectedPart → Bool
is_placed_in list None = false
is_placed_in list (Some p) = is_in_list list p.root (beginning_of p.selectors)

-- a list of what is named
abbrev pub names_in : ℕ → Bound → Bool
names_in list (b.Abbreviation place size reads) = is_placed_in list place
names_in list (b.Value v size reads) = false
names_in list (b.Root name) = false
names_in list (b.Body uses does) = false
names_in list b.Other = false

-- a list of one of these uses
abbrev pub are_in : ℕ → List Use → Bool
are_in list us = list_any (λ (u : Use). is_in_list list u.part.root (beginning_of u.part.selectors)) us

-- a list of what is read where it is specified
abbrev pub has_read : ℕ → Bound → Bool
has_read list x = are_in list (reads_of x)

-- ---- numbers that are noted

abbrev pub Lists : Type 0
Lists = List (List ℕ)

abbrev pub is_in : List ℕ → ℕ → Bool
is_in ns n = list_any (λ (k : ℕ). k == n) ns

abbrev pub those : Option (List ℕ) → List ℕ
those None = []
those (Some ns) = ns

-- in a list
abbrev pub noted : Lists → ℕ → List ℕ
noted lists list = those (slice_get lists list)

abbrev pub is_noted : Lists → ℕ → ℕ → Bool
is_noted lists list n = is_in (noted lists list) n

-- of each specification each list of which that is so
abbrev pub AreNoted : (ℕ → Bound → Bool) → List Bound → Lists → Type 0
AreNoted is_so xs lists = (n list : ℕ) (x : Bound) → slice_get xs n ≡ Some x → is_so list x ≡ true → is_noted lists list n ≡ true

-- perhaps others are noted too
pub record IsIndexed (s : Inside) : Type 0 where
  pub named : AreNoted names_in s.bounds s.named.items
  pub read : AreNoted has_read s.bounds s.read.items

-- what is noted in the one is in the other
abbrev pub AreKept : Lists → Lists → Type 0
AreKept old new = (list n : ℕ) → is_noted old list n ≡ true → is_noted new list n ≡ true

-- of numbers below this one
abbrev pub AreKeptBelow : ℕ → Lists → Lists → Type 0
AreKeptBelow depth old new = (list n : ℕ) → n < depth → is_noted old list n ≡ true → is_noted new list n ≡ true

-- the specification with a number concerns a use, or one of these
abbrev pub concerns_one : Option Bound → Use → Bool
concerns_one None u = false
concerns_one (Some x) u = concerns x u

abbrev pub concerns_at : Option Bound → List Use → Bool
concerns_at None us = false
concerns_at (Some x) us = concerns_some x us

-- a number of these, of one that concerns a use
abbrev pub is_chosen : List Bound → Use → List ℕ → ℕ → Bool
is_chosen xs u ns n = is_in ns n && concerns_one (slice_get xs n) u

-- a number in a list that is asked for a use, of one that concerns it
abbrev pub is_asked : List Bound → Lists → ℕ → Use → Bool
is_asked xs lists n u =
    is_chosen xs u (noted lists (whole_list u.part.root)) n
    || is_chosen xs u (noted lists (asked_list u.part.root (beginning_of u.part.selectors))) n

abbrev pub is_found : List Bound → Lists → Lists → ℕ → Use → Bool
is_found xs named read n u = is_asked xs named n u || (is_write u.kind && is_asked xs read n u)

abbrev pub is_from : ℕ → Option ℕ → Bool
is_from depth None = false
is_from depth (Some n) = nat_le depth n

-- the last of these numbers is not below this one
abbrev pub ends_from : List ℕ → ℕ → Bool
ends_from ns depth = is_from depth (slice_get ns (length ns - 1))
