-- The messages that a channel carries.
use Rattle.std.specs.Prelude.{◌≡◌, ◌≢◌, ℕ, Option, Some, None, List, [], ◌∷◌, true}
use Rattle.occ_types.specs.declared.types.Item.{Item}
use Rattle.occ_types.specs.declared.types.Tag.{Tag}
use Rattle.occ_protocol.specs.Carrying.{Carrier, tag_named}
use Rattle.occ_protocol.specs.Carrying.Carrier.{Data, Sequence, Variant}
use Rattle.occ_protocol.specs.Matching.{asked, meets, meets_any}
use Rattle.occ_protocol.specs.Matching.Asked.{Silent}
use Rattle.occ_protocol.specs.declared.given.Given.{Given}

-- as many items, and each meets the one at its place
pub data AreMet : List Item → List Given → Type 0 where
  none_met : AreMet [] []
  one_met : (item : Item) (items : List Item) (x : Given) (xs : List Given) → meets item x ≡ true → AreMet items xs → AreMet (item ∷ items) (x ∷ xs)

pub data AreData : List Given → Type 0 where
  no_data : AreData []
  one_datum : (x : Given) (xs : List Given) → meets_any x ≡ true → AreData xs → AreData (x ∷ xs)

-- these items, after this tag or after none, are a message that is carried
pub data IsMessage : Carrier → Option (List ℕ) → List Given → Type 0 where
  of_any : (xs : List Given) → AreData xs → IsMessage Data None xs
  of_items : (items : List Item) (xs : List Given) → AreMet items xs → IsMessage (Sequence items) None xs
  of_tag : (tags : List Tag) (name : List ℕ) (tag : Tag) (xs : List Given) → tag_named tags name ≡ Some tag → AreMet tag.items xs → IsMessage (Variant tags) (Some name) xs

-- what the items are compared with is not hidden by a fault of the channel or of the tag
abbrev pub IsSound : Carrier → Option (List ℕ) → Type 0
IsSound c tag = asked c tag ≢ Silent
