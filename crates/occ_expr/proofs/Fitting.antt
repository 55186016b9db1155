-- Each type fits itself: it has no other numbers of components, and no other fields, than it has.
use Rattle.std.proofs.Common.{◌≡◌, ◌∙◌, ◌&&◌, ◌||◌, ℕ, Bool, true, false, List, [], ◌∷◌, map, Option, Some, None, refl, ap, sym, subst}
use Rattle.std.proofs.lemmas.Bool.{eq-eqb}
use Rattle.std.proofs.lemmas.Slice.Eq.{bytes_eq-Decides}
use Rattle.occ_types.specs.Fits.{array_fits, channel_fits, counted_fits, counts_fit, defined_fits, field_fits, fields_fit, fits, is_same_name, is_same_packing, is_same_primitive, item_fits, items_fit, named_fits, primitive_fits, protocol_fits, record_fits, sequence_fits, tag_fits, tags_fit, value_fits, variant_fits}
use Rattle.occ_types.specs.View.{is_faulty_tag, is_unknown}
use Rattle.occ_types.specs.declared.types.Field.{Field, roll-Field}
use Rattle.occ_types.specs.declared.types.Item.{Item, roll-Item}
use Rattle.occ_types.specs.declared.types.Item.TheFolds.{ind-OccType, map-Field, map-Item, map-OccType, map-Protocol, map-Tag}
use Rattle.occ_types.specs.declared.types.Item.TheOpen.{Field-F, Item-F, OccType-F, Protocol-F, Tag-F}
use Rattle.occ_types.specs.declared.types.Item.TheVariants as i
use Rattle.occ_types.specs.declared.types.OccType.{OccType, roll-OccType}
use Rattle.occ_types.specs.declared.types.OccType.TheVariants as t
use Rattle.occ_types.specs.declared.types.Packing.{Packing}
use Rattle.occ_types.specs.declared.types.Packing.TheVariants as k
use Rattle.occ_types.specs.declared.types.Protocol.{Protocol, roll-Protocol}
use Rattle.occ_types.specs.declared.types.Protocol.TheVariants as c
use Rattle.occ_types.specs.declared.types.Tag.{Tag, roll-Tag}
use Rattle.occ_types.specs.declared.value.Primitive.{Primitive}
use Rattle.occ_types.specs.declared.value.Primitive.TheVariants as p
use Rattle.occ_types.proofs.Agreeing.{as_array_at_array, as_channel_at_channel, as_counted_at_counted, as_defined_at_defined, as_named_at_named, as_primitive_at_primitive, as_record_at_record, as_sequence_at_sequence, as_value_at_value, as_variant_at_variant, fits_of_array, fits_of_channel, fits_of_named, fits_of_primitive, fits_of_record, fits_of_timer, fits_of_unknown, is_any_at_any, is_timer_at_timer, is_unknown_at_unknown, item_fits_of_counted, item_fits_of_value, protocol_fits_of_any, protocol_fits_of_defined, protocol_fits_of_sequence, protocol_fits_of_variant}

abbrev ItemFits : Item → Type 0
ItemFits x = item_fits x x ≡ true

abbrev TypeFits : OccType → Type 0
TypeFits x = fits x x ≡ true

abbrev ProtocolFits : Protocol → Type 0
ProtocolFits x = protocol_fits x x ≡ true

abbrev FieldFits : Field → Type 0
FieldFits x = field_fits x x ≡ true

abbrev TagFits : Tag → Type 0
TagFits x = tag_fits x x ≡ true

abbrev Its : {X : Type 0} → (X → Type 0) → Type 0
Its {X} P = (x : X) × P x

-- ---- names, numbers and words

same_name : (name : List ℕ) → is_same_name name name ≡ true
same_name name = (bytes_eq-Decides name name).1 refl

same_primitive : (x : Primitive) → is_same_primitive x x ≡ true
same_primitive p.Bool = refl
same_primitive p.Byte = refl
same_primitive p.Int = refl
same_primitive p.Int16 = refl
same_primitive p.Int32 = refl
same_primitive p.Int64 = refl

same_packing : (x : Packing) → is_same_packing x x ≡ true
same_packing k.Packed = refl
same_packing k.Plain = refl

same_count : (n : Option ℕ) → counts_fit n n ≡ true
same_count None = refl
same_count (Some n) = eq-eqb n n refl

both : (a b : Bool) → a ≡ true → b ≡ true → (a && b) ≡ true
both a b e f = ap (λ (x : Bool). x && b) e ∙ f

-- what has a fault, or fits
or_fits : (faulty fit : Bool) → fit ≡ true → (faulty || faulty || fit) ≡ true
or_fits true fit e = refl
or_fits false fit e = e

-- ---- lists

items_fit_themselves : (xs : List (Its ItemFits)) → items_fit (map (λ (e : Its ItemFits). e.0) xs) (map (λ (e : Its ItemFits). e.0) xs) ≡ true
items_fit_themselves [] = refl
items_fit_themselves (x ∷ xs) = both (item_fits x.0 x.0) (items_fit (map (λ (e : Its ItemFits). e.0) xs) (map (λ (e : Its ItemFits). e.0) xs)) x.1 (items_fit_themselves xs)

fields_fit_themselves : (xs : List (Its FieldFits)) → fields_fit (map (λ (e : Its FieldFits). e.0) xs) (map (λ (e : Its FieldFits). e.0) xs) ≡ true
fields_fit_themselves [] = refl
fields_fit_themselves (x ∷ xs) = both (field_fits x.0 x.0) (fields_fit (map (λ (e : Its FieldFits). e.0) xs) (map (λ (e : Its FieldFits). e.0) xs)) x.1 (fields_fit_themselves xs)

tags_fit_themselves : (xs : List (Its TagFits)) → tags_fit (map (λ (e : Its TagFits). e.0) xs) (map (λ (e : Its TagFits). e.0) xs) ≡ true
tags_fit_themselves [] = refl
tags_fit_themselves (x ∷ xs) = both (tag_fits x.0 x.0) (tags_fit (map (λ (e : Its TagFits). e.0) xs) (map (λ (e : Its TagFits). e.0) xs)) x.1 (tags_fit_themselves xs)

-- ---- each layer

item_step : (x : Item-F Item OccType Protocol Field Tag) (y : Item-F (Its ItemFits) (Its TypeFits) (Its ProtocolFits) (Its FieldFits) (Its TagFits)) → map-Item _ _ _ _ _ _ _ _ _ _ (λ e. e.0) (λ e. e.0) (λ e. e.0) (λ e. e.0) (λ e. e.0) y ≡ x → ItemFits (roll-Item x)
item_step x y is = subst (λ z. ItemFits (roll-Item z)) is (by y) where
  by : (y : Item-F (Its ItemFits) (Its TypeFits) (Its ProtocolFits) (Its FieldFits) (Its TagFits)) → ItemFits (roll-Item (map-Item _ _ _ _ _ _ _ _ _ _ (λ e. e.0) (λ e. e.0) (λ e. e.0) (λ e. e.0) (λ e. e.0) y))
  by (Item-F.Value of) = subst ItemFits (sym (i.rolls-Value of.0)) (item_fits_of_value of.0 (i.Value of.0) ∙ ap (value_fits (fits of.0)) (as_value_at_value of.0) ∙ of.1)
  by (Item-F.Counted count of) = subst ItemFits (sym (i.rolls-Counted count of.0)) (item_fits_of_counted count of.0 (i.Counted count of.0) ∙ ap (counted_fits count (fits of.0)) (as_counted_at_counted count of.0) ∙ both (is_same_primitive count count) (fits of.0 of.0) (same_primitive count) of.1)

type_step : (x : OccType-F Item OccType Protocol Field Tag) (y : OccType-F (Its ItemFits) (Its TypeFits) (Its ProtocolFits) (Its FieldFits) (Its TagFits)) → map-OccType _ _ _ _ _ _ _ _ _ _ (λ e. e.0) (λ e. e.0) (λ e. e.0) (λ e. e.0) (λ e. e.0) y ≡ x → TypeFits (roll-OccType x)
type_step x y is = subst (λ z. TypeFits (roll-OccType z)) is (by y) where
  by : (y : OccType-F (Its ItemFits) (Its TypeFits) (Its ProtocolFits) (Its FieldFits) (Its TagFits)) → TypeFits (roll-OccType (map-OccType _ _ _ _ _ _ _ _ _ _ (λ e. e.0) (λ e. e.0) (λ e. e.0) (λ e. e.0) (λ e. e.0) y))
  by (OccType-F.Primitive x) = subst TypeFits (sym (t.rolls-Primitive x)) (fits_of_primitive x (t.Primitive x) ∙ ap (primitive_fits x) (as_primitive_at_primitive x) ∙ same_primitive x)
  by (OccType-F.Array n inner) = subst TypeFits (sym (t.rolls-Array n inner.0)) (fits_of_array n inner.0 (t.Array n inner.0) ∙ ap (array_fits n (fits inner.0)) (as_array_at_array n inner.0) ∙ both (counts_fit n n) (fits inner.0 inner.0) (same_count n) inner.1)
  by (OccType-F.Record packing fields) = let fs = map (λ (e : Its FieldFits). e.0) fields in
      subst TypeFits (sym (t.rolls-Record packing fs)) (fits_of_record packing fs (t.Record packing fs) ∙ ap (record_fits packing (map field_fits fs)) (as_record_at_record packing fs) ∙ both (is_same_packing packing packing) (fields_fit fs fs) (same_packing packing) (fields_fit_themselves fields))
  by (OccType-F.Named name inner) = subst TypeFits (sym (t.rolls-Named name inner.0)) (fits_of_named name inner.0 (t.Named name inner.0) ∙ ap (named_fits name (fits inner.0)) (as_named_at_named name inner.0) ∙ both (is_same_name name name) (fits inner.0 inner.0) (same_name name) inner.1)
  by (OccType-F.Channel carried) = subst TypeFits (sym (t.rolls-Channel carried.0)) (fits_of_channel carried.0 (t.Channel carried.0) ∙ ap (channel_fits (protocol_fits carried.0)) (as_channel_at_channel carried.0) ∙ carried.1)
  by OccType-F.Timer = subst TypeFits (sym t.rolls-Timer) (fits_of_timer t.Timer ∙ is_timer_at_timer)
  by OccType-F.Unknown = subst TypeFits (sym t.rolls-Unknown) (fits_of_unknown t.Unknown ∙ is_unknown_at_unknown)

protocol_step : (x : Protocol-F Item OccType Protocol Field Tag) (y : Protocol-F (Its ItemFits) (Its TypeFits) (Its ProtocolFits) (Its FieldFits) (Its TagFits)) → map-Protocol _ _ _ _ _ _ _ _ _ _ (λ e. e.0) (λ e. e.0) (λ e. e.0) (λ e. e.0) (λ e. e.0) y ≡ x → ProtocolFits (roll-Protocol x)
protocol_step x y is = subst (λ z. ProtocolFits (roll-Protocol z)) is (by y) where
  by : (y : Protocol-F (Its ItemFits) (Its TypeFits) (Its ProtocolFits) (Its FieldFits) (Its TagFits)) → ProtocolFits (roll-Protocol (map-Protocol _ _ _ _ _ _ _ _ _ _ (λ e. e.0) (λ e. e.0) (λ e. e.0) (λ e. e.0) (λ e. e.0) y))
  by Protocol-F.Any = subst ProtocolFits (sym c.rolls-Any) (protocol_fits_of_any c.Any ∙ is_any_at_any)
  by (Protocol-F.Sequence items) = let xs = map (λ (e : Its ItemFits). e.0) items in
      subst ProtocolFits (sym (c.rolls-Sequence xs)) (protocol_fits_of_sequence xs (c.Sequence xs) ∙ ap (sequence_fits (map item_fits xs)) (as_sequence_at_sequence xs) ∙ items_fit_themselves items)
  by (Protocol-F.Variant tags) = let xs = map (λ (e : Its TagFits). e.0) tags in
      subst ProtocolFits (sym (c.rolls-Variant xs)) (protocol_fits_of_variant xs (c.Variant xs) ∙ ap (variant_fits (map tag_fits xs)) (as_variant_at_variant xs) ∙ tags_fit_themselves tags)
  by (Protocol-F.Defined name inner) = subst ProtocolFits (sym (c.rolls-Defined name inner.0)) (protocol_fits_of_defined name inner.0 (c.Defined name inner.0) ∙ ap (defined_fits name (protocol_fits inner.0)) (as_defined_at_defined name inner.0) ∙ both (is_same_name name name) (protocol_fits inner.0 inner.0) (same_name name) inner.1)

field_step : (x : Field-F Item OccType Protocol Field Tag) (y : Field-F (Its ItemFits) (Its TypeFits) (Its ProtocolFits) (Its FieldFits) (Its TagFits)) → map-Field _ _ _ _ _ _ _ _ _ _ (λ e. e.0) (λ e. e.0) (λ e. e.0) (λ e. e.0) (λ e. e.0) y ≡ x → FieldFits (roll-Field x)
field_step x y is = subst (λ z. FieldFits (roll-Field z)) is (both (is_same_name y.name y.name) (is_unknown y.of.0 || is_unknown y.of.0 || fits y.of.0 y.of.0) (same_name y.name) (or_fits (is_unknown y.of.0) (fits y.of.0 y.of.0) y.of.1))

tag_step : (x : Tag-F Item OccType Protocol Field Tag) (y : Tag-F (Its ItemFits) (Its TypeFits) (Its ProtocolFits) (Its FieldFits) (Its TagFits)) → map-Tag _ _ _ _ _ _ _ _ _ _ (λ e. e.0) (λ e. e.0) (λ e. e.0) (λ e. e.0) (λ e. e.0) y ≡ x → TagFits (roll-Tag x)
tag_step x y is = subst (λ z. TagFits (roll-Tag z)) is
    (let xs = map (λ (e : Its ItemFits). e.0) y.items in let f = is_faulty_tag (record { name = y.name; items = xs }) in
    both (is_same_name y.name y.name) (f || f || items_fit xs xs) (same_name y.name) (or_fits f (items_fit xs xs) (items_fit_themselves y.items)))

pub fits_itself : (of : OccType) → fits of of ≡ true
fits_itself = ind-OccType ItemFits TypeFits ProtocolFits FieldFits TagFits item_step type_step protocol_step field_step tag_step
