-- Channels and items for the rows of this crate.
use Rattle.std.specs.Prelude.{ℕ, codes, Some, None, List, [], ◌∷◌}
use Rattle.occ_types.specs.declared.types.Item.TheVariants as i
use Rattle.occ_types.specs.declared.types.OccType.{OccType}
use Rattle.occ_types.specs.declared.types.OccType.TheVariants as t
use Rattle.occ_types.specs.declared.types.Tag.{Tag}
use Rattle.occ_types.specs.declared.value.Primitive.TheVariants as p
use Rattle.occ_typing_operands.specs.Settling.{int, known}
use Rattle.occ_typing_operands.specs.declared.kind.Kind.TheVariants as k
use Rattle.occ_protocol.specs.Carrying.{Carrier}
use Rattle.occ_protocol.specs.Carrying.Carrier.{Sequence, Variant}
use Rattle.occ_protocol.specs.declared.given.Given.{Given}
use Rattle.occ_protocol.specs.declared.given.Given.TheVariants as g

abbrev pub byte : OccType
byte = t.Primitive p.Byte

abbrev pub bool : OccType
bool = t.Primitive p.Bool

-- three of these
abbrev pub three : OccType → OccType
three of = t.Array (Some 3) of

-- an item of this type, and one with a count and an array of these types
abbrev pub plain : OccType → Given
plain of = g.Plain (known of None)

abbrev pub counted : OccType → OccType → Given
counted count of = g.Counted (known count None) (known of None)

abbrev pub faulty : Given
faulty = g.Plain k.Faulty

-- the channel of the rows is named c
abbrev pub c : List ℕ
c = codes "c"

-- channels of `INT; BYTE`, of `INT::[]BYTE`, and of a protocol with the tags `a; INT`, `b` and `f`, of which the line of
-- the last has a fault
abbrev pub pair : Carrier
pair = Sequence (i.Value int ∷ i.Value byte ∷ [])

abbrev pub row : Carrier
row = Sequence (i.Counted p.Int byte ∷ [])

abbrev pub tags : List Tag
tags = (record { name = codes "a"; items = i.Value int ∷ [] }) ∷ (record { name = codes "b"; items = [] }) ∷ (record { name = codes "f"; items = i.Value t.Unknown ∷ [] }) ∷ []

abbrev pub choice : Carrier
choice = Variant tags
