-- When two types agree, and what a type is under its names.
use Rattle.std.specs.Prelude.{ℕ, ◌==◌, Option, Some, None, List, [], ◌∷◌, map, Bool, true, false, ◌&&◌, ◌||◌}
use Rattle.std.specs.List.{list_any}
use Rattle.std.specs.Str.{bytes_eq}
use Rattle.occ_types.specs.declared.types.Field.{Field}
use Rattle.occ_types.specs.declared.types.Item.{Item}
use Rattle.occ_types.specs.declared.types.Item.TheFolds.{fold-Item, fold-OccType, fold-Protocol}
use Rattle.occ_types.specs.declared.types.Item.TheOpen.{Field-F, Item-F, OccType-F, Protocol-F, Tag-F}
use Rattle.occ_types.specs.declared.types.Item.TheVariants as w
use Rattle.occ_types.specs.declared.types.OccType.{OccType}
use Rattle.occ_types.specs.declared.types.OccType.TheVariants as v
use Rattle.occ_types.specs.declared.types.Packing.{Packing}
use Rattle.occ_types.specs.declared.types.Packing.TheVariants as k
use Rattle.occ_types.specs.declared.types.Protocol.{Protocol}
use Rattle.occ_types.specs.declared.types.Tag.{Tag}
use Rattle.occ_types.specs.declared.value.Primitive.{Primitive}
use Rattle.occ_types.specs.declared.value.Primitive.TheVariants as p
use Rattle.occ_types.specs.View.{as_array, as_channel, as_counted, as_defined, as_named, as_primitive, as_record, as_sequence, as_value, as_variant, is_any, is_faulty_tag, is_timer, is_unknown}

abbrev pub is_same_name : List ℕ → List ℕ → Bool
is_same_name a b = bytes_eq a b

abbrev pub is_same_primitive : Primitive → Primitive → Bool
is_same_primitive p.Bool p.Bool = true
is_same_primitive p.Byte p.Byte = true
is_same_primitive p.Int p.Int = true
is_same_primitive p.Int16 p.Int16 = true
is_same_primitive p.Int32 p.Int32 = true
is_same_primitive p.Int64 p.Int64 = true
is_same_primitive _ _ = false

abbrev pub is_same_packing : Packing → Packing → Bool
is_same_packing k.Packed k.Packed = true
is_same_packing k.Plain k.Plain = true
is_same_packing _ _ = false

-- both lists are as long, and each agrees with the one at its place
abbrev pub all_fit : {X : Type 0} → List (X → Bool) → List X → Bool
all_fit [] [] = true
all_fit [] (x ∷ xs) = false
all_fit (fit ∷ fits) [] = false
all_fit (fit ∷ fits) (x ∷ xs) = fit x && all_fit fits xs

-- ---- a type under its names

abbrev pub through_name : {X : Type 0} → X → (OccType → X) → Option (List ℕ × OccType) → X
through_name here inner None = here
through_name here inner (Some named) = inner named.1

-- what is reported of the first type without a name under the names of this one
abbrev pub beneath_step : {X : Type 0} → (OccType → X) → OccType-F (Unit {0}) (OccType → X) (Unit {0}) (Unit {0}) (Unit {0}) → OccType → X
beneath_step report (OccType-F.Primitive primitive) self = report self
beneath_step report (OccType-F.Array n inner) self = report self
beneath_step report (OccType-F.Record packing fields) self = report self
beneath_step report (OccType-F.Named name inner) self = through_name (report self) inner (as_named self)
beneath_step report (OccType-F.Channel carried) self = report self
beneath_step report OccType-F.Timer self = report self
beneath_step report OccType-F.Unknown self = report self

-- the type without its outer names
unfoldable pub unnamed : OccType → OccType
unnamed t = fold-OccType (Unit {0}) (OccType → OccType) (Unit {0}) (Unit {0}) (Unit {0}) (λ _. tt) (beneath_step (λ u. u)) (λ _. tt) (λ _. tt) (λ _. tt) t t

-- ---- types that agree

-- a number of components that is not known fits every number
abbrev pub counts_fit : Option ℕ → Option ℕ → Bool
counts_fit None n = true
counts_fit (Some m) None = true
counts_fit (Some m) (Some n) = m == n

abbrev pub primitive_fits : Primitive → Option Primitive → Bool
primitive_fits a None = false
primitive_fits a (Some b) = is_same_primitive a b

abbrev pub array_fits : Option ℕ → (OccType → Bool) → Option (Option ℕ × OccType) → Bool
array_fits n inner None = false
array_fits n inner (Some other) = counts_fit n other.0 && inner other.1

abbrev pub named_fits : List ℕ → (OccType → Bool) → Option (List ℕ × OccType) → Bool
named_fits name inner None = false
named_fits name inner (Some other) = is_same_name name other.0 && inner other.1

abbrev pub record_fits : Packing → List (Field → Bool) → Option (Packing × List Field) → Bool
record_fits packing fields None = false
record_fits packing fields (Some other) = is_same_packing packing other.0 && all_fit fields other.1

abbrev pub channel_fits : (Protocol → Bool) → Option Protocol → Bool
channel_fits carried None = false
channel_fits carried (Some other) = carried other

abbrev pub sequence_fits : List (Item → Bool) → Option (List Item) → Bool
sequence_fits items None = false
sequence_fits items (Some others) = all_fit items others

abbrev pub variant_fits : List (Tag → Bool) → Option (List Tag) → Bool
variant_fits tags None = false
variant_fits tags (Some others) = all_fit tags others

abbrev pub defined_fits : List ℕ → (Protocol → Bool) → Option (List ℕ × Protocol) → Bool
defined_fits name inner None = false
defined_fits name inner (Some other) = is_same_name name other.0 && inner other.1

abbrev pub value_fits : (OccType → Bool) → Option OccType → Bool
value_fits of None = false
value_fits of (Some other) = of other

abbrev pub counted_fits : Primitive → (OccType → Bool) → Option (Primitive × OccType) → Bool
counted_fits count of None = false
counted_fits count of (Some other) = is_same_primitive count other.0 && of other.1

abbrev pub item_step : Item-F (Item → Bool) (OccType → Bool) (Protocol → Bool) (Field → Bool) (Tag → Bool) → Item → Bool
item_step (Item-F.Value of) i = value_fits of (as_value i)
item_step (Item-F.Counted count of) i = counted_fits count of (as_counted i)

abbrev pub type_step : OccType-F (Item → Bool) (OccType → Bool) (Protocol → Bool) (Field → Bool) (Tag → Bool) → OccType → Bool
type_step (OccType-F.Primitive primitive) u = primitive_fits primitive (as_primitive u)
type_step (OccType-F.Array n inner) u = array_fits n inner (as_array u)
type_step (OccType-F.Record packing fields) u = record_fits packing fields (as_record u)
type_step (OccType-F.Named name inner) u = named_fits name inner (as_named u)
type_step (OccType-F.Channel carried) u = channel_fits carried (as_channel u)
type_step OccType-F.Timer u = is_timer u
type_step OccType-F.Unknown u = is_unknown u

abbrev pub protocol_step : Protocol-F (Item → Bool) (OccType → Bool) (Protocol → Bool) (Field → Bool) (Tag → Bool) → Protocol → Bool
protocol_step Protocol-F.Any c = is_any c
protocol_step (Protocol-F.Sequence items) c = sequence_fits items (as_sequence c)
protocol_step (Protocol-F.Variant tags) c = variant_fits tags (as_variant c)
protocol_step (Protocol-F.Defined name inner) c = defined_fits name inner (as_defined c)

-- a field whose line has a fault agrees with any of its name. Its type reports it: no other agrees with the unknown one
abbrev pub field_step : Field-F (Item → Bool) (OccType → Bool) (Protocol → Bool) (Field → Bool) (Tag → Bool) → Field → Bool
field_step f g = is_same_name f.name g.name && (f.of v.Unknown || is_unknown g.of || f.of g.of)

-- so does a tag whose line has one, reported by its items likewise
abbrev pub tag_step : Tag-F (Item → Bool) (OccType → Bool) (Protocol → Bool) (Field → Bool) (Tag → Bool) → Tag → Bool
tag_step t u = is_same_name t.name u.name && (list_any (λ fit. fit (w.Value v.Unknown)) t.items || is_faulty_tag u || all_fit t.items u.items)

-- the types are one, but for unknown numbers of components, and for fields and tags whose lines have faults
abbrev pub fits : OccType → OccType → Bool
fits = fold-OccType (Item → Bool) (OccType → Bool) (Protocol → Bool) (Field → Bool) (Tag → Bool) item_step type_step protocol_step field_step tag_step

abbrev pub protocol_fits : Protocol → Protocol → Bool
protocol_fits = fold-Protocol (Item → Bool) (OccType → Bool) (Protocol → Bool) (Field → Bool) (Tag → Bool) item_step type_step protocol_step field_step tag_step

abbrev pub item_fits : Item → Item → Bool
item_fits = fold-Item (Item → Bool) (OccType → Bool) (Protocol → Bool) (Field → Bool) (Tag → Bool) item_step type_step protocol_step field_step tag_step

abbrev pub field_fits : Field → Field → Bool
field_fits f g = is_same_name f.name g.name && (is_unknown f.of || is_unknown g.of || fits f.of g.of)

abbrev pub items_fit : List Item → List Item → Bool
items_fit is js = all_fit (map item_fits is) js

abbrev pub fields_fit : List Field → List Field → Bool
fields_fit fs gs = all_fit (map field_fits fs) gs

abbrev pub tag_fits : Tag → Tag → Bool
tag_fits t u = is_same_name t.name u.name && (is_faulty_tag t || is_faulty_tag u || items_fit t.items u.items)

abbrev pub tags_fit : List Tag → List Tag → Bool
tags_fit ts us = all_fit (map tag_fits ts) us

-- ---- types that agree but for their names

abbrev pub alike_step : OccType-F (Unit {0}) (OccType → Bool) (Unit {0}) (Field → Bool) (Unit {0}) → OccType → Bool
alike_step (OccType-F.Primitive primitive) u = primitive_fits primitive (as_primitive (unnamed u))
alike_step (OccType-F.Array n inner) u = array_fits n inner (as_array (unnamed u))
alike_step (OccType-F.Record packing fields) u = record_fits packing fields (as_record (unnamed u))
alike_step (OccType-F.Named name inner) u = inner u
alike_step (OccType-F.Channel carried) u = false
alike_step OccType-F.Timer u = false
alike_step OccType-F.Unknown u = true

abbrev pub alike_field_step : Field-F (Unit {0}) (OccType → Bool) (Unit {0}) (Field → Bool) (Unit {0}) → Field → Bool
alike_field_step f g = is_same_name f.name g.name && (is_unknown g.of || f.of g.of)

-- the types are one when each name of a type is dropped, at any depth; no channel and no timer is in them, and a field whose
-- line has a fault is alike with any of its name
abbrev pub alike : OccType → OccType → Bool
alike = fold-OccType (Unit {0}) (OccType → Bool) (Unit {0}) (Field → Bool) (Unit {0}) (λ _. tt) alike_step (λ _. tt) alike_field_step (λ _. tt)

abbrev pub field_alike : Field → Field → Bool
field_alike f g = is_same_name f.name g.name && (is_unknown g.of || alike f.of g.of)

abbrev pub fields_alike : List Field → List Field → Bool
fields_alike fs gs = all_fit (map field_alike fs) gs

-- ---- data

abbrev pub data_step : OccType-F (Unit {0}) Bool (Unit {0}) (Unit {0}) (Unit {0}) → Bool
data_step (OccType-F.Primitive primitive) = true
data_step (OccType-F.Array n inner) = inner
data_step (OccType-F.Record packing fields) = true
data_step (OccType-F.Named name inner) = true
data_step (OccType-F.Channel carried) = false
data_step OccType-F.Timer = false
data_step OccType-F.Unknown = true

-- no channel, no timer and no array of them
abbrev pub is_data : OccType → Bool
is_data = fold-OccType (Unit {0}) Bool (Unit {0}) (Unit {0}) (Unit {0}) (λ _. tt) data_step (λ _. tt) (λ _. tt) (λ _. tt)
