-- What is wanted of each item that is sent, before it is known what it is.
use Rattle.std.specs.Prelude.{◌==◌, None, List, [], ◌∷◌, length, map, if◌then◌else◌}
use Rattle.occ_types.specs.declared.types.Field.{Field}
use Rattle.occ_types.specs.declared.types.Item.{Item, out-Item}
use Rattle.occ_types.specs.declared.types.Item.TheOpen.{Item-F}
use Rattle.occ_types.specs.declared.types.OccType.{OccType}
use Rattle.occ_types.specs.declared.types.OccType.TheVariants as t
use Rattle.occ_types.specs.declared.types.Protocol.{Protocol}
use Rattle.occ_types.specs.declared.types.Tag.{Tag}
use Rattle.occ_types.specs.declared.value.Primitive.{Primitive}
use Rattle.occ_protocol.specs.Matching.{Asked}
use Rattle.occ_protocol.specs.Matching.Asked.{Silent, Instead, NoTag, AnyData, These}
use Rattle.occ_protocol.specs.declared.given.Shape.{Shape}
use Rattle.occ_protocol.specs.declared.given.Shape.TheVariants as s
use Rattle.occ_protocol.specs.declared.given.Want.{Want}
use Rattle.occ_protocol.specs.declared.given.Want.TheVariants as w
use Rattle.occ_protocol.specs.declared.given.Wanted.{Wanted}
use Rattle.occ_protocol.specs.declared.given.Wanted.TheVariants as wanted

-- this is wanted of each operand of an item
abbrev pub throughout : Want → Shape → Wanted
throughout want s.Plain = wanted.Plain want
throughout want s.Counted = wanted.Counted want want

-- where a fault hides it, and where nothing is wanted
abbrev pub hidden : Shape → Wanted
hidden shape = throughout w.Hidden shape

abbrev pub nothing : Shape → Wanted
nothing shape = throughout w.Nothing shape

-- a count of this type, and any number of values of that one
abbrev pub counted_wanted : Primitive → OccType → Wanted
counted_wanted count of = wanted.Counted (w.Of (t.Primitive count)) (w.Of (t.Array None of))

-- of a plain item for a plain one its type, of a counted one for a counted one the types of its count and its array; of
-- others nothing
abbrev pub wanted_layer : Item-F Item OccType Protocol Field Tag → Shape → Wanted
wanted_layer (Item-F.Value of) s.Plain = wanted.Plain (w.Of of)
wanted_layer (Item-F.Value of) s.Counted = nothing s.Counted
wanted_layer (Item-F.Counted count of) s.Plain = nothing s.Plain
wanted_layer (Item-F.Counted count of) s.Counted = counted_wanted count of

unfoldable pub wanted_for : Item → Shape → Wanted
wanted_for item shape = wanted_layer (out-Item item) shape

abbrev pub each_wanted : List Item → List Shape → List Wanted
each_wanted [] shapes = []
each_wanted (item ∷ items) [] = []
each_wanted (item ∷ items) (shape ∷ shapes) = wanted_for item shape ∷ each_wanted items shapes

-- of more or fewer items than the protocol has nothing is wanted
abbrev pub wanted_against : List Item → List Shape → List Wanted
wanted_against items shapes = if length items == length shapes then each_wanted items shapes else map nothing shapes

abbrev pub wants : Asked → List Shape → List Wanted
wants Silent shapes = map hidden shapes
wants (Instead code) shapes = map hidden shapes
wants (NoTag name) shapes = map hidden shapes
wants AnyData shapes = map nothing shapes
wants (These items) shapes = wanted_against items shapes
