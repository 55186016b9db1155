-- What the program's values of a channel stand for.
use Rattle.std.specs.Prelude.{Option, Some, None}
use Rattle.std.specs.Borrow.{Bor}
use Rattle.occ_types.specs.declared.types.Tag.{Tag}
use Rattle.occ_protocol.specs.Carrying.{Carrier}
use Rattle.occ_protocol.specs.Carrying.Carrier.{Hidden, Nothing, Time, Data, Sequence, Variant}
use Rattle.occ_protocol.specs.Matching.{Asked}
use Rattle.occ_protocol.specs.Matching.Asked.{Silent, Instead, NoTag, AnyData, These}
use Rattle.occ_protocol.specs.declared.asked.Asked.{Asked as LentAsked}
use Rattle.occ_protocol.specs.declared.asked.Asked.TheVariants as asked
use Rattle.occ_protocol.specs.declared.carrier.Carrier.{Carrier as LentCarrier}
use Rattle.occ_protocol.specs.declared.carrier.Carrier.TheVariants as lent

abbrev pub seen : LentCarrier → Carrier
seen lent.Hidden = Hidden
seen lent.Nothing = Nothing
seen lent.Time = Time
seen lent.Data = Data
seen (lent.Sequence items) = Sequence items.now
seen (lent.Variant tags) = Variant tags.now

abbrev pub asked_seen : LentAsked → Asked
asked_seen asked.Silent = Silent
asked_seen (asked.Instead code) = Instead code
asked_seen (asked.NoTag name) = NoTag name.now
asked_seen asked.AnyData = AnyData
asked_seen (asked.These items) = These items.now

abbrev pub tag_seen : Option (Bor Tag) → Option Tag
tag_seen None = None
tag_seen (Some tag) = Some tag.now
