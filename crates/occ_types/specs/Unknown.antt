-- Whether a type holds what is not known: a field whose line has a fault.
use Rattle.std.specs.Prelude.{Bool, true, false, ◌||◌, List, [], ◌∷◌}
use Rattle.occ_types.specs.declared.types.Item.TheOpen.{Item-F, OccType-F, Protocol-F, Field-F, Tag-F}
use Rattle.occ_types.specs.declared.types.Item.TheFolds.{fold-Item, fold-OccType, fold-Protocol}
use Rattle.occ_types.specs.declared.types.OccType.{OccType}
use Rattle.occ_types.specs.declared.types.Protocol.{Protocol}
use Rattle.occ_types.specs.declared.types.Item.{Item}
use Rattle.occ_types.specs.declared.types.Field.{Field}
use Rattle.occ_types.specs.declared.types.Tag.{Tag}

-- one of the parts does
abbrev pub any_of : List Bool → Bool
any_of [] = false
any_of (b ∷ bs) = b || any_of bs

abbrev pub item_step : Item-F Bool Bool Bool Bool Bool → Bool
item_step (Item-F.Value b) = b
item_step (Item-F.Counted count b) = b

abbrev pub type_step : OccType-F Bool Bool Bool Bool Bool → Bool
type_step (OccType-F.Primitive primitive) = false
type_step (OccType-F.Array n b) = b
type_step (OccType-F.Record packing bs) = any_of bs
type_step (OccType-F.Named name b) = b
type_step (OccType-F.Channel b) = b
type_step OccType-F.Timer = false
type_step OccType-F.Unknown = true

abbrev pub protocol_step : Protocol-F Bool Bool Bool Bool Bool → Bool
protocol_step Protocol-F.Any = false
protocol_step (Protocol-F.Sequence bs) = any_of bs
protocol_step (Protocol-F.Variant bs) = any_of bs
protocol_step (Protocol-F.Defined name b) = b

abbrev pub field_step : Field-F Bool Bool Bool Bool Bool → Bool
field_step f = f.of

abbrev pub tag_step : Tag-F Bool Bool Bool Bool Bool → Bool
tag_step t = any_of t.items

abbrev pub item_unknown : Item → Bool
item_unknown = fold-Item Bool Bool Bool Bool Bool item_step type_step protocol_step field_step tag_step

abbrev pub holds_unknown : OccType → Bool
holds_unknown = fold-OccType Bool Bool Bool Bool Bool item_step type_step protocol_step field_step tag_step

abbrev pub protocol_unknown : Protocol → Bool
protocol_unknown = fold-Protocol Bool Bool Bool Bool Bool item_step type_step protocol_step field_step tag_step

abbrev pub items_unknown : List Item → List Bool
items_unknown [] = []
items_unknown (i ∷ is) = item_unknown i ∷ items_unknown is

abbrev pub fields_unknown : List Field → List Bool
fields_unknown [] = []
fields_unknown (f ∷ fs) = holds_unknown f.of ∷ fields_unknown fs

abbrev pub tags_unknown : List Tag → List Bool
tags_unknown [] = []
tags_unknown (t ∷ ts) = any_of (items_unknown t.items) ∷ tags_unknown ts
