-- Segments of arrays.
use Rattle.std.specs.Prelude.{ℕ, nat_le, ℤ, pos, negsuc, ◌-ℤ◌, int_lt, Bool, false, ◌||◌, Option, Some, None, [], ◌∷◌, if◌then◌else◌}
use Rattle.occ_base.specs.declared.code.Code.TheVariants as code
use Rattle.occ_types.specs.Constant.{number_of}
use Rattle.occ_types.specs.Fits.{unnamed}
use Rattle.occ_types.specs.View.{as_array}
use Rattle.occ_types.specs.declared.types.OccType.{OccType}
use Rattle.occ_types.specs.declared.types.OccType.TheVariants as t
use Rattle.occ_types.specs.declared.value.Value.{Value}
use Rattle.occ_typing_operands.specs.Settling.{Finding, fault_of, int, known}
use Rattle.occ_typing_operands.specs.declared.kind.Kind.{Kind}
use Rattle.occ_typing_operands.specs.declared.kind.Kind.TheVariants as k
use Rattle.occ_typing_tables.specs.Terms.{Judged, judged, with_items}
use Rattle.occ_typing_tables.specs.declared.selection.BoundTerms.{BoundTerms}
use Rattle.occ_typing_tables.specs.declared.selection.BoundTerms.TheVariants as bounds

abbrev pub number_in : Option Value → Option ℤ
number_in None = None
number_in (Some v) = Some (number_of v)

-- the number of a bound, if it is constant
abbrev pub constant_of : Kind → Option ℤ
constant_of k.Faulty = None
constant_of (k.Untyped f) = None
constant_of (k.Known x) = number_in x.value

-- from a base to the end of an array, where its size and the base are known
abbrev pub to_the_end : Option ℕ → Option ℤ → Option ℤ
to_the_end None base = None
to_the_end (Some n) None = None
to_the_end (Some n) (Some base) = Some (pos n -ℤ base)

abbrev pub is_below_0 : ℤ → Bool
is_below_0 i = int_lt i (pos 0)

abbrev pub is_negative : Option ℤ → Bool
is_negative None = false
is_negative (Some i) = is_below_0 i

-- more than there are from the base to the end
abbrev pub ends_after : Option ℕ → ℤ → ℤ → Bool
ends_after None base count = false
ends_after (Some n) base count = int_lt (pos n -ℤ base) count

-- it begins before an array of so many components or ends after it, where that is constant
abbrev pub is_beyond : Option ℕ → Option ℤ → Option ℤ → Bool
is_beyond n None count = false
is_beyond n (Some base) None = false
is_beyond n (Some base) (Some count) = is_below_0 base || ends_after n base count

abbrev pub count_of : Option ℤ → Option ℕ
count_of None = None
count_of (Some (pos n)) = if nat_le n 4294967295 then Some n else None
count_of (Some (negsuc n)) = None

-- a segment of an array of so many components of this type is an array without a name
abbrev pub taken : Option ℕ → OccType → Option ℤ → Option ℤ → Finding
taken n of base count =
    if is_negative count || is_beyond n base count then fault_of code.T6
    else record { faults = []; kind = known (t.Array (count_of count) of) None }

-- each bound is an INT
abbrev pub bound : Judged → Finding
bound x = x.under int

abbrev pub from_for : Option ℕ → OccType → Finding → Finding → Finding
from_for n of base count = with_items (base ∷ count ∷ []) (taken n of (constant_of base.kind) (constant_of count.kind))

abbrev pub from_base : Option ℕ → OccType → Finding → Finding
from_base n of base = with_items (base ∷ []) (taken n of (constant_of base.kind) (to_the_end n (constant_of base.kind)))

abbrev pub for_count : Option ℕ → OccType → Finding → Finding
for_count n of count = with_items (count ∷ []) (taken n of (Some (pos 0)) (constant_of count.kind))

abbrev pub segment_within : Option ℕ → OccType → BoundTerms → Finding
segment_within n of (bounds.From base) = from_base n of (bound (judged base))
segment_within n of (bounds.For count) = for_count n of (bound (judged count))
segment_within n of (bounds.FromFor base count) = from_for n of (bound (judged base)) (bound (judged count))

-- what has no components has no segment; a faulty bound was reported
abbrev pub no_part : Finding → Finding
no_part x = with_items (x ∷ []) (fault_of code.T2)

abbrev pub no_parts : Finding → Finding → Finding
no_parts x y = with_items (x ∷ y ∷ []) (fault_of code.T2)

abbrev pub no_segment : BoundTerms → Finding
no_segment (bounds.From base) = no_part (bound (judged base))
no_segment (bounds.For count) = no_part (bound (judged count))
no_segment (bounds.FromFor base count) = no_parts (bound (judged base)) (bound (judged count))

abbrev pub segment_in : Option (Option ℕ × OccType) → BoundTerms → Finding
segment_in None b = no_segment b
segment_in (Some parts) b = segment_within parts.0 parts.1 b

-- a segment of a value of a type that is an array under its names
abbrev pub segment : OccType → BoundTerms → Finding
segment of b = segment_in (as_array (unnamed of)) b
