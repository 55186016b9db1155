-- How deep a type is when each name in it is written out, and how many types it then has. A primitive type, TIMER,
-- ANY, a dimension, CHAN, RECORD and the name of a type or a protocol are each one type, and one level above what
-- they hold. `T::[]U` has T, a dimension and U.
use Rattle.std.specs.Prelude.{◌+◌, min, max, List, [], ◌∷◌}
use Rattle.occ_types.specs.declared.types.Item.TheOpen.{Item-F, OccType-F, Protocol-F, Field-F, Tag-F}
use Rattle.occ_types.specs.declared.types.Item.TheFolds.{fold-Item, fold-OccType, fold-Protocol}
use Rattle.occ_types.specs.declared.types.OccType.{OccType}
use Rattle.occ_types.specs.declared.types.Protocol.{Protocol}
use Rattle.occ_types.specs.declared.types.Item.{Item}
use Rattle.occ_types.specs.declared.types.Field.{Field}
use Rattle.occ_types.specs.declared.types.Tag.{Tag}
use Rattle.occ_types.specs.declared.measure.Measure.{Measure}

abbrev pub none : Measure
none = record { levels = 0; types = 0 }

abbrev pub one : Measure
one = record { levels = 1; types = 1 }

-- one type more, which holds these
abbrev pub above : Measure → Measure
above m = record { levels = m.levels + 1; types = m.types + 1 }

-- types that stand beside one another
abbrev pub beside : Measure → Measure → Measure
beside a b = record { levels = max a.levels b.levels; types = a.types + b.types }

abbrev pub all_of : List Measure → Measure
all_of [] = none
all_of (m ∷ ms) = beside m (all_of ms)

abbrev pub item_step : Item-F Measure Measure Measure Measure Measure → Measure
item_step (Item-F.Value m) = m
item_step (Item-F.Counted count m) = beside one (above m)

abbrev pub type_step : OccType-F Measure Measure Measure Measure Measure → Measure
type_step (OccType-F.Primitive primitive) = one
type_step (OccType-F.Array n m) = above m
type_step (OccType-F.Record packing ms) = above (all_of ms)
type_step (OccType-F.Named name m) = above m
type_step (OccType-F.Channel m) = above m
type_step OccType-F.Timer = one
type_step OccType-F.Unknown = none

abbrev pub protocol_step : Protocol-F Measure Measure Measure Measure Measure → Measure
protocol_step Protocol-F.Any = one
protocol_step (Protocol-F.Sequence ms) = all_of ms
protocol_step (Protocol-F.Variant ms) = all_of ms
protocol_step (Protocol-F.Defined name m) = above m

abbrev pub field_step : Field-F Measure Measure Measure Measure Measure → Measure
field_step f = f.of

abbrev pub tag_step : Tag-F Measure Measure Measure Measure Measure → Measure
tag_step t = all_of t.items

abbrev pub item_measure : Item → Measure
item_measure = fold-Item Measure Measure Measure Measure Measure item_step type_step protocol_step field_step tag_step

abbrev pub measure_of : OccType → Measure
measure_of = fold-OccType Measure Measure Measure Measure Measure item_step type_step protocol_step field_step tag_step

abbrev pub protocol_measure : Protocol → Measure
protocol_measure = fold-Protocol Measure Measure Measure Measure Measure item_step type_step protocol_step field_step tag_step

abbrev pub item_measures : List Item → List Measure
item_measures [] = []
item_measures (i ∷ is) = item_measure i ∷ item_measures is

abbrev pub field_measures : List Field → List Measure
field_measures [] = []
field_measures (f ∷ fs) = measure_of f.of ∷ field_measures fs

abbrev pub tag_measures : List Tag → List Measure
tag_measures [] = []
tag_measures (t ∷ ts) = all_of (item_measures t.items) ∷ tag_measures ts

-- the measure as it is held: 4294967295 stands for all that is more
abbrev pub held : Measure → Measure
held m = record { levels = min m.levels 4294967295; types = min m.types 4294967295 }
