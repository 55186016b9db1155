-- Types as a line writes them.
use Rattle.std.specs.Prelude.{ℕ, Option, Some, None, List, [], ◌∷◌, ◌++◌, if◌then◌else◌}
use Rattle.occ_base.specs.declared.code.Code.TheVariants as code
use Rattle.occ_types.specs.View.{as_primitive}
use Rattle.occ_types.specs.declared.types.Item.TheVariants as item
use Rattle.occ_types.specs.declared.types.OccType.{OccType}
use Rattle.occ_types.specs.declared.types.OccType.TheVariants as t
use Rattle.occ_types.specs.declared.types.Protocol.TheVariants as protocol
use Rattle.occ_types.specs.declared.value.Primitive.{Primitive}
use Rattle.occ_types.specs.declared.value.Primitive.TheVariants as p
use Rattle.occ_typing_operands.specs.Settling.{number}
use Rattle.occ_base.specs.Reporting.{nameless}
use Rattle.occ_base.specs.declared.fault.Fault.{Fault}
use Rattle.occ_scope.specs.Lookup.{Found, carries, data_type, good}
use Rattle.occ_scope.specs.Visible.{visible}
use Rattle.occ_scope.specs.declared.lookup.Carried.{Carried}
use Rattle.occ_scope.specs.declared.lookup.Carried.TheVariants as carried
use Rattle.occ_scope.specs.declared.scope.Scope.{Scope}
use Rattle.occ_typing_tables.specs.Extents.{is_too_large}
use Rattle.occ_forms_expressions.specs.declared.tree.DataBase.{DataBase}
use Rattle.occ_forms_expressions.specs.declared.tree.DataBase.TheVariants as base
use Rattle.occ_forms_expressions.specs.declared.tree.PrimitiveWord.{PrimitiveWord}
use Rattle.occ_forms_expressions.specs.declared.tree.PrimitiveWord.TheVariants as word
use Rattle.occ_expr_operations.specs.declared.written.Extent.{Extent}
use Rattle.occ_expr_operations.specs.declared.written.Extent.TheVariants as extent
use Rattle.occ_expr_operations.specs.declared.written.Opening.{Opening}
use Rattle.occ_expr_operations.specs.declared.written.Opening.TheVariants as opening

-- of a type that is written: its faults, and the type, if nothing is wrong with it
abbrev pub Written : Type 0
Written = Found OccType

abbrev pub faulty : {X : Type 0} → Found X
faulty = record { faults = []; found = None }

-- ---- without dimensions

abbrev pub primitive_of : PrimitiveWord → Primitive
primitive_of word.Bool = p.Bool
primitive_of word.Byte = p.Byte
primitive_of word.Int = p.Int
primitive_of word.Int16 = p.Int16
primitive_of word.Int32 = p.Int32
primitive_of word.Int64 = p.Int64

abbrev pub base_type : Scope → DataBase → Written
base_type s (base.Named n) = data_type n (visible s n)
base_type s (base.Primitive w) = good (t.Primitive (primitive_of w))

-- ---- dimensions

-- the faults of a dimension, and what it is then
pub record Spanning : Type 0 where
  pub faults : List Fault
  pub extent : Extent

-- `[]` stands where it may
abbrev pub open_dimension : Opening → Spanning
open_dimension opening.Allowed = record { faults = []; extent = extent.Open }
open_dimension opening.Refused = record { faults = nameless code.T5 ∷ []; extent = extent.Faulty }

abbrev pub extent_of : Option ℕ → Extent
extent_of None = extent.Faulty
extent_of (Some n) = extent.Sized n

abbrev pub all_spanning_faults : List Spanning → List Fault
all_spanning_faults [] = []
all_spanning_faults (x ∷ xs) = x.faults ++ all_spanning_faults xs

abbrev pub extents : List Spanning → List Extent
extents [] = []
extents (x ∷ xs) = x.extent ∷ extents xs

abbrev pub array_of : Extent → OccType → Option OccType
array_of extent.Faulty of = None
array_of extent.Open of = Some (t.Array None of)
array_of (extent.Sized n) of = Some (t.Array (Some n) of)

abbrev pub spanned : Extent → Option OccType → Option OccType
spanned x None = None
spanned x (Some of) = array_of x of

-- a type with all of these in front of it, the outermost first
abbrev pub spanned_by : List Extent → Option OccType → Option OccType
spanned_by [] of = of
spanned_by (x ∷ xs) of = spanned x (spanned_by xs of)

-- a type that is not too large
abbrev pub limited : Option OccType → Written
limited None = faulty
limited (Some of) = if is_too_large of then record { faults = nameless code.T9 ∷ []; found = None } else good of

-- an array of components of a type, if nothing is wrong with any of its dimensions: those that were read, and these
unfoldable pub array_after : List Extent → List Spanning → Option OccType → Written
array_after front xs of =
    let x = limited (spanned_by (front ++ extents xs) of) in record { faults = all_spanning_faults xs ++ x.faults; found = x.found }

abbrev pub array_over : List Spanning → Written → Written
array_over xs of = let x = array_after [] xs of.found in record { faults = of.faults ++ x.faults; found = x.found }

abbrev pub array_over_more : Spanning → List Spanning → Written → Written
array_over_more first xs of =
    let x = array_after (first.extent ∷ []) xs of.found in
    record { faults = of.faults ++ (first.faults ++ x.faults); found = x.found }

unfoldable pub data_form : Scope → List Spanning → DataBase → Written
data_form s xs b = array_over xs (base_type s b)

-- ---- channels

abbrev pub channel_of : Carried → OccType
channel_of (carried.Values of) = t.Channel (protocol.Sequence (item.Value of ∷ []))
channel_of (carried.Protocol c) = t.Channel c

abbrev pub channel_if : Option Carried → Option OccType
channel_if None = None
channel_if (Some c) = Some (channel_of c)

abbrev pub channel_of_values : Option OccType → Option OccType
channel_of_values None = None
channel_of_values (Some of) = Some (channel_of (carried.Values of))

-- of a name alone, which may be a protocol's
abbrev pub named_channel : Found Carried → Written
named_channel x = record { faults = x.faults; found = channel_if x.found }

abbrev pub values_channel : Written → Written
values_channel x = record { faults = x.faults; found = channel_of_values x.found }

unfoldable pub channel : Scope → List Spanning → DataBase → Written
channel s [] (base.Named n) = named_channel (carries n (visible s n))
channel s [] (base.Primitive w) = values_channel (data_form s [] (base.Primitive w))
channel s (x ∷ xs) b = values_channel (data_form s (x ∷ xs) b)

-- ---- `T::[]U`: T is an integer type or BYTE itself

abbrev pub count_fault : Option Primitive → Found Primitive
count_fault None = record { faults = nameless code.T2 ∷ []; found = None }
count_fault (Some primitive) = good primitive

unfoldable pub count_type : Option OccType → Found Primitive
count_type None = faulty
count_type (Some of) = count_fault (number (as_primitive of))

unfoldable pub counted_type : Option Primitive → Option OccType → Option OccType
counted_type None of = None
counted_type (Some count) None = None
counted_type (Some count) (Some of) = Some (t.Channel (protocol.Sequence (item.Counted count of ∷ [])))

abbrev pub counted_channel : Written → Written → Written
counted_channel count of =
    let c = count_type count.found in
    record { faults = count.faults ++ (c.faults ++ of.faults); found = counted_type c.found of.found }
