-- A list of items against what a channel carries: what it is compared with, and where it does not match.
use Rattle.std.specs.Prelude.{ℕ, ◌==◌, Option, Some, None, List, [], ◌∷◌, ◌++◌, length, Bool, false, ◌&&◌, ◌||◌, if◌then◌else◌}
use Rattle.std.specs.List.{list_any}
use Rattle.occ_base.specs.declared.code.Code.{Code}
use Rattle.occ_base.specs.declared.code.Code.TheVariants as code
use Rattle.occ_base.specs.declared.fault.Fault.{Fault}
use Rattle.occ_types.specs.Fits.{array_fits, fits, is_data, primitive_fits}
use Rattle.occ_types.specs.View.{as_array, as_primitive, is_faulty_tag}
use Rattle.occ_types.specs.declared.types.Field.{Field}
use Rattle.occ_types.specs.declared.types.Item.{Item, out-Item}
use Rattle.occ_types.specs.declared.types.Item.TheOpen.{Item-F}
use Rattle.occ_types.specs.declared.types.OccType.{OccType}
use Rattle.occ_types.specs.declared.types.Protocol.{Protocol}
use Rattle.occ_types.specs.declared.types.Tag.{Tag}
use Rattle.occ_types.specs.declared.value.Primitive.{Primitive}
use Rattle.occ_typing_operands.specs.Operators.{is_faulty, is_there, is_of}
use Rattle.occ_typing_operands.specs.Settling.{number}
use Rattle.occ_typing_operands.specs.declared.kind.Kind.{Kind}
use Rattle.occ_typing_operands.specs.declared.kind.Kind.TheVariants as k
use Rattle.occ_protocol.specs.Carrying.{Carrier, tag_named}
use Rattle.occ_protocol.specs.Carrying.Carrier.{Hidden, Nothing, Time, Data, Sequence, Variant}
use Rattle.occ_protocol.specs.declared.given.Given.{Given}
use Rattle.occ_protocol.specs.declared.given.Given.TheVariants as g

-- ---- what a list is compared with

-- Silent: with nothing, and nothing is reported; Instead: with nothing, and this code is reported; NoTag: the tag is not in the
-- protocol; AnyData: each item is any data; These: with these items, one by one
pub data Asked : Type 0 where
  Silent : Asked
  Instead : Code → Asked
  NoTag : List ℕ → Asked
  AnyData : Asked
  These : List Item → Asked

-- what stands after this tag, of which the protocol says this
abbrev pub following : List ℕ → Option Tag → Asked
following name None = NoTag name
following name (Some tag) = if is_faulty_tag tag then Silent else These tag.items

-- what items are compared with that stand after a tag, or after none: a tag is for protocols with tags, and for these
-- alone
abbrev pub asked : Carrier → Option (List ℕ) → Asked
asked Hidden tag = Silent
asked Nothing tag = Instead code.P4
asked Time tag = Instead code.P4
asked Data None = AnyData
asked Data (Some name) = Instead code.P3
asked (Sequence items) None = These items
asked (Sequence items) (Some name) = Instead code.P3
asked (Variant tags) None = Instead code.P3
asked (Variant tags) (Some name) = following name (tag_named tags name)

-- ---- one item

-- a count of just this type
abbrev pub is_count : Primitive → Kind → Bool
is_count count k.Faulty = false
is_count count (k.Untyped f) = false
is_count count (k.Known x) = primitive_fits count (as_primitive x.of)

-- an array without a name, of values of this type
abbrev pub is_row : OccType → Kind → Bool
is_row of k.Faulty = false
is_row of (k.Untyped f) = false
is_row of (k.Known x) = array_fits None (fits of) (as_array x.of)

-- an item meets one of the protocol: a plain one a plain one, a counted one a counted one
abbrev pub meets_layer : Item-F Item OccType Protocol Field Tag → Given → Bool
meets_layer (Item-F.Value of) (g.Plain x) = is_of of x
meets_layer (Item-F.Value of) (g.Counted n x) = false
meets_layer (Item-F.Counted count of) (g.Plain x) = false
meets_layer (Item-F.Counted count of) (g.Counted n x) = is_count count n && is_row of x

unfoldable pub meets : Item → Given → Bool
meets item given = meets_layer (out-Item item) given

-- data of any type
abbrev pub is_any : Kind → Bool
is_any k.Faulty = false
is_any (k.Untyped f) = false
is_any (k.Known x) = is_data x.of

-- a count of an integer type or BYTE
abbrev pub is_any_count : Kind → Bool
is_any_count k.Faulty = false
is_any_count (k.Untyped f) = false
is_any_count (k.Known x) = is_there (number (as_primitive x.of))

-- an array without a name, of data
abbrev pub is_any_row : Kind → Bool
is_any_row k.Faulty = false
is_any_row (k.Untyped f) = false
is_any_row (k.Known x) = array_fits None is_data (as_array x.of)

-- an item may go through a channel of ANY
abbrev pub meets_any : Given → Bool
meets_any (g.Plain x) = is_any x
meets_any (g.Counted n x) = is_any_count n && is_any_row x

-- ---- what is reported

abbrev pub named : Code → List ℕ → List Fault
named code name = (record { code = code; name = Some name }) ∷ []

-- a count or an array that is faulty makes the whole item faulty
abbrev pub has_fault : Given → Bool
has_fault (g.Plain x) = is_faulty x
has_fault (g.Counted n x) = is_faulty n || is_faulty x

-- P1 with the name of the channel, unless the item is faulty
abbrev pub unmet : List ℕ → Bool → Given → List Fault
unmet root is_met given = if is_met || has_fault given then [] else named code.P1 root

abbrev pub each_unmet : List ℕ → List Item → List Given → List Fault
each_unmet root [] given = []
each_unmet root (item ∷ items) [] = []
each_unmet root (item ∷ items) (x ∷ xs) = unmet root (meets item x) x ++ each_unmet root items xs

abbrev pub each_unmet_any : List ℕ → List Given → List Fault
each_unmet_any root [] = []
each_unmet_any root (x ∷ xs) = unmet root (meets_any x) x ++ each_unmet_any root xs

-- more or fewer items than the protocol has: P1, unless one of them is faulty
abbrev pub of_another_number : List ℕ → List Given → List Fault
of_another_number root xs = if list_any has_fault xs then [] else named code.P1 root

abbrev pub against : List ℕ → List Item → List Given → List Fault
against root items xs = if length items == length xs then each_unmet root items xs else of_another_number root xs

-- what is reported of a list; the channel is named, and a tag where it is the tag
abbrev pub reported : List ℕ → Asked → List Given → List Fault
reported root Silent xs = []
reported root (Instead code) xs = named code root
reported root (NoTag name) xs = named code.P2 name
reported root AnyData xs = each_unmet_any root xs
reported root (These items) xs = against root items xs
