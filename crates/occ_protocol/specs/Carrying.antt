-- What an element is to those who send and receive through it, and the tags of a protocol.
use Rattle.std.specs.Prelude.{ℕ, ◌+◌, Option, Some, None, List, [], ◌∷◌, Bool, true, false, if◌then◌else◌}
use Rattle.std.specs.Borrow.{Bor}
use Rattle.std.specs.Str.{bytes_eq}
use Rattle.occ_types.specs.View.{as_channel, as_defined, as_sequence, as_variant, is_timer}
use Rattle.occ_types.specs.declared.types.Item.{Item}
use Rattle.occ_types.specs.declared.types.Item.TheFolds.{fold-Protocol}
use Rattle.occ_types.specs.declared.types.Item.TheOpen.{Protocol-F}
use Rattle.occ_types.specs.declared.types.OccType.{OccType}
use Rattle.occ_types.specs.declared.types.Protocol.{Protocol}
use Rattle.occ_types.specs.declared.types.Tag.{Tag}
use Rattle.occ_typing_operands.specs.declared.kind.Kind.{Kind}
use Rattle.occ_typing_operands.specs.declared.kind.Kind.TheVariants as k

-- ---- what an element carries

-- Hidden: a fault hides it; Nothing: the element is neither a channel nor a timer; Time: it is a timer; Data: a channel
-- of ANY; Sequence: a channel of these items, one after the other; Variant: a channel of these tags, each with its items
pub data Carrier : Type 0 where
  Hidden : Carrier
  Nothing : Carrier
  Time : Carrier
  Data : Carrier
  Sequence : List Item → Carrier
  Variant : List Tag → Carrier

abbrev pub sequence : Option (List Item) → Carrier
sequence None = Hidden
sequence (Some items) = Sequence items

abbrev pub variant : Option (List Tag) → Carrier
variant None = Hidden
variant (Some tags) = Variant tags

abbrev pub through_name : (Protocol → Carrier) → Option (List ℕ × Protocol) → Carrier
through_name inner None = Hidden
through_name inner (Some defined) = inner defined.1

abbrev pub protocol_step : Protocol-F (Unit {0}) (Unit {0}) (Protocol → Carrier) (Unit {0}) (Unit {0}) → Protocol → Carrier
protocol_step Protocol-F.Any self = Data
protocol_step (Protocol-F.Sequence items) self = sequence (as_sequence self)
protocol_step (Protocol-F.Variant tags) self = variant (as_variant self)
protocol_step (Protocol-F.Defined name inner) self = through_name inner (as_defined self)

-- a channel of a protocol carries what that is under its names
unfoldable pub carried : Protocol → Carrier
carried c = fold-Protocol (Unit {0}) (Unit {0}) (Protocol → Carrier) (Unit {0}) (Unit {0}) (λ _. tt) (λ _. tt) protocol_step (λ _. tt) (λ _. tt) c c

abbrev pub no_channel : Bool → Carrier
no_channel true = Time
no_channel false = Nothing

abbrev pub of_channel : Option Protocol → Bool → Carrier
of_channel None is_timer = no_channel is_timer
of_channel (Some protocol) is_timer = carried protocol

-- an array of channels is no channel
abbrev pub of_type : OccType → Carrier
of_type of = of_channel (as_channel of) (is_timer of)

abbrev pub carrier : Kind → Carrier
carrier k.Faulty = Hidden
carrier (k.Untyped f) = Hidden
carrier (k.Known x) = of_type x.of

-- ---- tags

-- the name of a tag, if there is one
abbrev pub name_seen : Option (Bor (List ℕ)) → Option (List ℕ)
name_seen None = None
name_seen (Some name) = Some name.now

-- the first tag of this name
abbrev pub tag_named : List Tag → List ℕ → Option Tag
tag_named [] name = None
tag_named (tag ∷ tags) name = if bytes_eq tag.name name then Some tag else tag_named tags name

-- the place of the first tag of this name, with n tags before these
abbrev pub place_from : ℕ → List Tag → List ℕ → Option ℕ
place_from n [] name = None
place_from n (tag ∷ tags) name = if bytes_eq tag.name name then Some n else place_from (n + 1) tags name

abbrev pub place_named : List Tag → List ℕ → Option ℕ
place_named tags name = place_from 0 tags name
