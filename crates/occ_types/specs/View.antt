-- What a type is made of, looked at one level deep.
use Rattle.std.specs.Prelude.{ℕ, Option, Some, None, List, Bool, true, false}
use Rattle.std.specs.List.{list_any}
use Rattle.occ_types.specs.declared.types.Item.TheOpen.{Item-F, OccType-F, Protocol-F}
use Rattle.occ_types.specs.declared.types.OccType.{OccType, out-OccType}
use Rattle.occ_types.specs.declared.types.Protocol.{Protocol, out-Protocol}
use Rattle.occ_types.specs.declared.types.Item.{Item, out-Item}
use Rattle.occ_types.specs.declared.types.Field.{Field}
use Rattle.occ_types.specs.declared.types.Tag.{Tag}
use Rattle.occ_types.specs.declared.types.Packing.{Packing}
use Rattle.occ_types.specs.declared.value.Primitive.{Primitive}

abbrev pub Layer : Type 0
Layer = OccType-F Item OccType Protocol Field Tag

abbrev pub primitive_layer : Layer → Option Primitive
primitive_layer (OccType-F.Primitive primitive) = Some primitive
primitive_layer (OccType-F.Array n inner) = None
primitive_layer (OccType-F.Record packing fields) = None
primitive_layer (OccType-F.Named name inner) = None
primitive_layer (OccType-F.Channel carried) = None
primitive_layer OccType-F.Timer = None
primitive_layer OccType-F.Unknown = None

abbrev pub array_layer : Layer → Option (Option ℕ × OccType)
array_layer (OccType-F.Primitive primitive) = None
array_layer (OccType-F.Array n inner) = Some (n, inner)
array_layer (OccType-F.Record packing fields) = None
array_layer (OccType-F.Named name inner) = None
array_layer (OccType-F.Channel carried) = None
array_layer OccType-F.Timer = None
array_layer OccType-F.Unknown = None

abbrev pub record_layer : Layer → Option (Packing × List Field)
record_layer (OccType-F.Primitive primitive) = None
record_layer (OccType-F.Array n inner) = None
record_layer (OccType-F.Record packing fields) = Some (packing, fields)
record_layer (OccType-F.Named name inner) = None
record_layer (OccType-F.Channel carried) = None
record_layer OccType-F.Timer = None
record_layer OccType-F.Unknown = None

abbrev pub named_layer : Layer → Option (List ℕ × OccType)
named_layer (OccType-F.Primitive primitive) = None
named_layer (OccType-F.Array n inner) = None
named_layer (OccType-F.Record packing fields) = None
named_layer (OccType-F.Named name inner) = Some (name, inner)
named_layer (OccType-F.Channel carried) = None
named_layer OccType-F.Timer = None
named_layer OccType-F.Unknown = None

abbrev pub channel_layer : Layer → Option Protocol
channel_layer (OccType-F.Primitive primitive) = None
channel_layer (OccType-F.Array n inner) = None
channel_layer (OccType-F.Record packing fields) = None
channel_layer (OccType-F.Named name inner) = None
channel_layer (OccType-F.Channel carried) = Some carried
channel_layer OccType-F.Timer = None
channel_layer OccType-F.Unknown = None

abbrev pub timer_layer : Layer → Bool
timer_layer (OccType-F.Primitive primitive) = false
timer_layer (OccType-F.Array n inner) = false
timer_layer (OccType-F.Record packing fields) = false
timer_layer (OccType-F.Named name inner) = false
timer_layer (OccType-F.Channel carried) = false
timer_layer OccType-F.Timer = true
timer_layer OccType-F.Unknown = false

abbrev pub unknown_layer : Layer → Bool
unknown_layer (OccType-F.Primitive primitive) = false
unknown_layer (OccType-F.Array n inner) = false
unknown_layer (OccType-F.Record packing fields) = false
unknown_layer (OccType-F.Named name inner) = false
unknown_layer (OccType-F.Channel carried) = false
unknown_layer OccType-F.Timer = false
unknown_layer OccType-F.Unknown = true

-- the primitive type that a type is, without a name
unfoldable pub as_primitive : OccType → Option Primitive
as_primitive t = primitive_layer (out-OccType t)

-- the number of components, if it is known, and their type
unfoldable pub as_array : OccType → Option (Option ℕ × OccType)
as_array t = array_layer (out-OccType t)

unfoldable pub as_record : OccType → Option (Packing × List Field)
as_record t = record_layer (out-OccType t)

-- what holds of the type of an array's components, or this where it is no array
abbrev pub of_component : {X : Type 0} → X → (OccType → X) → Option (Option ℕ × OccType) → X
of_component here inner None = here
of_component here inner (Some parts) = inner parts.1

abbrev pub second : Option (Packing × List Field) → Option (List Field)
second None = None
second (Some parts) = Some parts.1

abbrev pub fields_in : OccType → Option (List Field)
fields_in t = second (as_record t)

unfoldable pub as_named : OccType → Option (List ℕ × OccType)
as_named t = named_layer (out-OccType t)

unfoldable pub as_channel : OccType → Option Protocol
as_channel t = channel_layer (out-OccType t)

unfoldable pub is_timer : OccType → Bool
is_timer t = timer_layer (out-OccType t)

unfoldable pub is_unknown : OccType → Bool
is_unknown t = unknown_layer (out-OccType t)

-- ---- and a protocol

abbrev pub ProtocolLayer : Type 0
ProtocolLayer = Protocol-F Item OccType Protocol Field Tag

abbrev pub any_layer : ProtocolLayer → Bool
any_layer Protocol-F.Any = true
any_layer (Protocol-F.Sequence items) = false
any_layer (Protocol-F.Variant tags) = false
any_layer (Protocol-F.Defined name inner) = false

abbrev pub sequence_layer : ProtocolLayer → Option (List Item)
sequence_layer Protocol-F.Any = None
sequence_layer (Protocol-F.Sequence items) = Some items
sequence_layer (Protocol-F.Variant tags) = None
sequence_layer (Protocol-F.Defined name inner) = None

abbrev pub variant_layer : ProtocolLayer → Option (List Tag)
variant_layer Protocol-F.Any = None
variant_layer (Protocol-F.Sequence items) = None
variant_layer (Protocol-F.Variant tags) = Some tags
variant_layer (Protocol-F.Defined name inner) = None

abbrev pub defined_layer : ProtocolLayer → Option (List ℕ × Protocol)
defined_layer Protocol-F.Any = None
defined_layer (Protocol-F.Sequence items) = None
defined_layer (Protocol-F.Variant tags) = None
defined_layer (Protocol-F.Defined name inner) = Some (name, inner)

unfoldable pub is_any : Protocol → Bool
is_any c = any_layer (out-Protocol c)

unfoldable pub as_sequence : Protocol → Option (List Item)
as_sequence c = sequence_layer (out-Protocol c)

unfoldable pub as_variant : Protocol → Option (List Tag)
as_variant c = variant_layer (out-Protocol c)

unfoldable pub as_defined : Protocol → Option (List ℕ × Protocol)
as_defined c = defined_layer (out-Protocol c)

-- ---- and an item

abbrev pub ItemLayer : Type 0
ItemLayer = Item-F Item OccType Protocol Field Tag

abbrev pub value_layer : ItemLayer → Option OccType
value_layer (Item-F.Value of) = Some of
value_layer (Item-F.Counted count of) = None

abbrev pub counted_layer : ItemLayer → Option (Primitive × OccType)
counted_layer (Item-F.Value of) = None
counted_layer (Item-F.Counted count of) = Some (count, of)

unfoldable pub as_value : Item → Option OccType
as_value i = value_layer (out-Item i)

unfoldable pub as_counted : Item → Option (Primitive × OccType)
as_counted i = counted_layer (out-Item i)

-- ---- tags whose line has a fault

abbrev pub unknown_value : Option OccType → Bool
unknown_value None = false
unknown_value (Some of) = is_unknown of

abbrev pub is_unknown_item : Item → Bool
is_unknown_item item = unknown_value (as_value item)

-- the line of the tag has a fault: it has an item of unknown type
abbrev pub is_faulty_tag : Tag → Bool
is_faulty_tag tag = list_any is_unknown_item tag.items
