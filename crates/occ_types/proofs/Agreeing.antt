-- When two types agree, form by form.
use Rattle.std.proofs.Common.{◌≡◌, ℕ, List, [], ◌∷◌, map, Option, Some, None, Bool, true, false, refl, ap, sym, ◌∙◌, ◌≢◌}
use Rattle.std.specs.Prelude.{◌&&◌, ◌||◌}
use Rattle.std.specs.List.{list_any}
use Rattle.occ_types.specs.declared.types.Item.TheOpen.{Item-F, OccType-F, Protocol-F}
use Rattle.occ_types.specs.declared.types.Item.TheFolds.{fold-OccType, fold-Field, fold-Tag, fold-roll-Item, fold-roll-OccType, fold-roll-Protocol, fold-roll-Field, fold-roll-Tag}
use Rattle.occ_types.specs.declared.types.Item.TheViews.{roll-out-Field, roll-out-Item, roll-out-OccType, roll-out-Protocol, roll-out-Tag, out-roll-Item, out-roll-OccType, out-roll-Protocol}
use Rattle.occ_types.specs.declared.types.OccType.{OccType, out-OccType, roll-OccType}
use Rattle.occ_types.specs.declared.types.OccType.TheVariants as t
use Rattle.occ_types.specs.declared.types.Packing.{Packing}
use Rattle.occ_types.specs.declared.types.Protocol.{Protocol, out-Protocol, roll-Protocol}
use Rattle.occ_types.specs.declared.types.Protocol.TheVariants as p
use Rattle.occ_types.specs.declared.types.Item.{Item, out-Item, roll-Item}
use Rattle.occ_types.specs.declared.types.Item.TheVariants as i
use Rattle.occ_types.specs.declared.types.Field.{Field, out-Field}
use Rattle.occ_types.specs.declared.types.Tag.{Tag, out-Tag}
use Rattle.occ_types.specs.declared.value.Primitive.{Primitive}
use Rattle.occ_types.specs.View.{ItemLayer, Layer, ProtocolLayer, any_layer, array_layer, as_array, as_channel, as_counted, as_defined, as_named, as_primitive, as_record, as_sequence, as_value, as_variant, channel_layer, counted_layer, defined_layer, is_any, is_faulty_tag, is_timer, is_unknown, is_unknown_item, named_layer, primitive_layer, record_layer, sequence_layer, timer_layer, unknown_layer, unknown_value, value_layer, variant_layer}
use Rattle.occ_types.specs.Fits.{alike, alike_field_step, alike_step, all_fit, array_fits, beneath_step, channel_fits, counted_fits, data_step, defined_fits, field_alike, field_fits, field_step, fields_alike, fields_fit, fits, is_data, is_same_name, is_same_packing, item_fits, item_step, items_fit, named_fits, primitive_fits, protocol_fits, protocol_step, record_fits, sequence_fits, tag_fits, tag_step, tags_fit, through_name, type_step, unnamed, value_fits, variant_fits}

pub as_primitive_at_primitive : (x : Primitive) → as_primitive (t.Primitive x) ≡ Some x
unfolding as_primitive
as_primitive_at_primitive x = ap as_primitive (sym (t.rolls-Primitive x)) ∙ ap primitive_layer (out-roll-OccType (OccType-F.Primitive x))

pub as_primitive_at_array : (n : Option ℕ) (inner : OccType) → as_primitive (t.Array n inner) ≡ None
unfolding as_primitive
as_primitive_at_array n inner = ap as_primitive (sym (t.rolls-Array n inner)) ∙ ap primitive_layer (out-roll-OccType (OccType-F.Array n inner))

pub as_primitive_at_record : (packing : Packing) (fields : List Field) → as_primitive (t.Record packing fields) ≡ None
unfolding as_primitive
as_primitive_at_record packing fields = ap as_primitive (sym (t.rolls-Record packing fields)) ∙ ap primitive_layer (out-roll-OccType (OccType-F.Record packing fields))

pub as_primitive_at_named : (name : List ℕ) (inner : OccType) → as_primitive (t.Named name inner) ≡ None
unfolding as_primitive
as_primitive_at_named name inner = ap as_primitive (sym (t.rolls-Named name inner)) ∙ ap primitive_layer (out-roll-OccType (OccType-F.Named name inner))

pub as_primitive_at_channel : (carried : Protocol) → as_primitive (t.Channel carried) ≡ None
unfolding as_primitive
as_primitive_at_channel carried = ap as_primitive (sym (t.rolls-Channel carried)) ∙ ap primitive_layer (out-roll-OccType (OccType-F.Channel carried))

pub as_primitive_at_timer : as_primitive t.Timer ≡ None
unfolding as_primitive
as_primitive_at_timer = ap as_primitive (sym t.rolls-Timer) ∙ ap primitive_layer (out-roll-OccType OccType-F.Timer)

pub as_primitive_at_unknown : as_primitive t.Unknown ≡ None
unfolding as_primitive
as_primitive_at_unknown = ap as_primitive (sym t.rolls-Unknown) ∙ ap primitive_layer (out-roll-OccType OccType-F.Unknown)

pub as_array_at_primitive : (x : Primitive) → as_array (t.Primitive x) ≡ None
unfolding as_array
as_array_at_primitive x = ap as_array (sym (t.rolls-Primitive x)) ∙ ap array_layer (out-roll-OccType (OccType-F.Primitive x))

pub as_array_at_array : (n : Option ℕ) (inner : OccType) → as_array (t.Array n inner) ≡ Some (n, inner)
unfolding as_array
as_array_at_array n inner = ap as_array (sym (t.rolls-Array n inner)) ∙ ap array_layer (out-roll-OccType (OccType-F.Array n inner))

pub as_array_at_record : (packing : Packing) (fields : List Field) → as_array (t.Record packing fields) ≡ None
unfolding as_array
as_array_at_record packing fields = ap as_array (sym (t.rolls-Record packing fields)) ∙ ap array_layer (out-roll-OccType (OccType-F.Record packing fields))

pub as_array_at_named : (name : List ℕ) (inner : OccType) → as_array (t.Named name inner) ≡ None
unfolding as_array
as_array_at_named name inner = ap as_array (sym (t.rolls-Named name inner)) ∙ ap array_layer (out-roll-OccType (OccType-F.Named name inner))

pub as_array_at_channel : (carried : Protocol) → as_array (t.Channel carried) ≡ None
unfolding as_array
as_array_at_channel carried = ap as_array (sym (t.rolls-Channel carried)) ∙ ap array_layer (out-roll-OccType (OccType-F.Channel carried))

pub as_array_at_timer : as_array t.Timer ≡ None
unfolding as_array
as_array_at_timer = ap as_array (sym t.rolls-Timer) ∙ ap array_layer (out-roll-OccType OccType-F.Timer)

pub as_array_at_unknown : as_array t.Unknown ≡ None
unfolding as_array
as_array_at_unknown = ap as_array (sym t.rolls-Unknown) ∙ ap array_layer (out-roll-OccType OccType-F.Unknown)

pub as_record_at_primitive : (x : Primitive) → as_record (t.Primitive x) ≡ None
unfolding as_record
as_record_at_primitive x = ap as_record (sym (t.rolls-Primitive x)) ∙ ap record_layer (out-roll-OccType (OccType-F.Primitive x))

pub as_record_at_array : (n : Option ℕ) (inner : OccType) → as_record (t.Array n inner) ≡ None
unfolding as_record
as_record_at_array n inner = ap as_record (sym (t.rolls-Array n inner)) ∙ ap record_layer (out-roll-OccType (OccType-F.Array n inner))

pub as_record_at_record : (packing : Packing) (fields : List Field) → as_record (t.Record packing fields) ≡ Some (packing, fields)
unfolding as_record
as_record_at_record packing fields = ap as_record (sym (t.rolls-Record packing fields)) ∙ ap record_layer (out-roll-OccType (OccType-F.Record packing fields))

pub as_record_at_named : (name : List ℕ) (inner : OccType) → as_record (t.Named name inner) ≡ None
unfolding as_record
as_record_at_named name inner = ap as_record (sym (t.rolls-Named name inner)) ∙ ap record_layer (out-roll-OccType (OccType-F.Named name inner))

pub as_record_at_channel : (carried : Protocol) → as_record (t.Channel carried) ≡ None
unfolding as_record
as_record_at_channel carried = ap as_record (sym (t.rolls-Channel carried)) ∙ ap record_layer (out-roll-OccType (OccType-F.Channel carried))

pub as_record_at_timer : as_record t.Timer ≡ None
unfolding as_record
as_record_at_timer = ap as_record (sym t.rolls-Timer) ∙ ap record_layer (out-roll-OccType OccType-F.Timer)

pub as_record_at_unknown : as_record t.Unknown ≡ None
unfolding as_record
as_record_at_unknown = ap as_record (sym t.rolls-Unknown) ∙ ap record_layer (out-roll-OccType OccType-F.Unknown)

pub as_named_at_primitive : (x : Primitive) → as_named (t.Primitive x) ≡ None
unfolding as_named
as_named_at_primitive x = ap as_named (sym (t.rolls-Primitive x)) ∙ ap named_layer (out-roll-OccType (OccType-F.Primitive x))

pub as_named_at_array : (n : Option ℕ) (inner : OccType) → as_named (t.Array n inner) ≡ None
unfolding as_named
as_named_at_array n inner = ap as_named (sym (t.rolls-Array n inner)) ∙ ap named_layer (out-roll-OccType (OccType-F.Array n inner))

pub as_named_at_record : (packing : Packing) (fields : List Field) → as_named (t.Record packing fields) ≡ None
unfolding as_named
as_named_at_record packing fields = ap as_named (sym (t.rolls-Record packing fields)) ∙ ap named_layer (out-roll-OccType (OccType-F.Record packing fields))

pub as_named_at_named : (name : List ℕ) (inner : OccType) → as_named (t.Named name inner) ≡ Some (name, inner)
unfolding as_named
as_named_at_named name inner = ap as_named (sym (t.rolls-Named name inner)) ∙ ap named_layer (out-roll-OccType (OccType-F.Named name inner))

pub as_named_at_channel : (carried : Protocol) → as_named (t.Channel carried) ≡ None
unfolding as_named
as_named_at_channel carried = ap as_named (sym (t.rolls-Channel carried)) ∙ ap named_layer (out-roll-OccType (OccType-F.Channel carried))

pub as_named_at_timer : as_named t.Timer ≡ None
unfolding as_named
as_named_at_timer = ap as_named (sym t.rolls-Timer) ∙ ap named_layer (out-roll-OccType OccType-F.Timer)

pub as_named_at_unknown : as_named t.Unknown ≡ None
unfolding as_named
as_named_at_unknown = ap as_named (sym t.rolls-Unknown) ∙ ap named_layer (out-roll-OccType OccType-F.Unknown)

pub as_channel_at_primitive : (x : Primitive) → as_channel (t.Primitive x) ≡ None
unfolding as_channel
as_channel_at_primitive x = ap as_channel (sym (t.rolls-Primitive x)) ∙ ap channel_layer (out-roll-OccType (OccType-F.Primitive x))

pub as_channel_at_array : (n : Option ℕ) (inner : OccType) → as_channel (t.Array n inner) ≡ None
unfolding as_channel
as_channel_at_array n inner = ap as_channel (sym (t.rolls-Array n inner)) ∙ ap channel_layer (out-roll-OccType (OccType-F.Array n inner))

pub as_channel_at_record : (packing : Packing) (fields : List Field) → as_channel (t.Record packing fields) ≡ None
unfolding as_channel
as_channel_at_record packing fields = ap as_channel (sym (t.rolls-Record packing fields)) ∙ ap channel_layer (out-roll-OccType (OccType-F.Record packing fields))

pub as_channel_at_named : (name : List ℕ) (inner : OccType) → as_channel (t.Named name inner) ≡ None
unfolding as_channel
as_channel_at_named name inner = ap as_channel (sym (t.rolls-Named name inner)) ∙ ap channel_layer (out-roll-OccType (OccType-F.Named name inner))

pub as_channel_at_channel : (carried : Protocol) → as_channel (t.Channel carried) ≡ Some carried
unfolding as_channel
as_channel_at_channel carried = ap as_channel (sym (t.rolls-Channel carried)) ∙ ap channel_layer (out-roll-OccType (OccType-F.Channel carried))

pub as_channel_at_timer : as_channel t.Timer ≡ None
unfolding as_channel
as_channel_at_timer = ap as_channel (sym t.rolls-Timer) ∙ ap channel_layer (out-roll-OccType OccType-F.Timer)

pub as_channel_at_unknown : as_channel t.Unknown ≡ None
unfolding as_channel
as_channel_at_unknown = ap as_channel (sym t.rolls-Unknown) ∙ ap channel_layer (out-roll-OccType OccType-F.Unknown)

pub is_timer_at_primitive : (x : Primitive) → is_timer (t.Primitive x) ≡ false
unfolding is_timer
is_timer_at_primitive x = ap is_timer (sym (t.rolls-Primitive x)) ∙ ap timer_layer (out-roll-OccType (OccType-F.Primitive x))

pub is_timer_at_array : (n : Option ℕ) (inner : OccType) → is_timer (t.Array n inner) ≡ false
unfolding is_timer
is_timer_at_array n inner = ap is_timer (sym (t.rolls-Array n inner)) ∙ ap timer_layer (out-roll-OccType (OccType-F.Array n inner))

pub is_timer_at_record : (packing : Packing) (fields : List Field) → is_timer (t.Record packing fields) ≡ false
unfolding is_timer
is_timer_at_record packing fields = ap is_timer (sym (t.rolls-Record packing fields)) ∙ ap timer_layer (out-roll-OccType (OccType-F.Record packing fields))

pub is_timer_at_named : (name : List ℕ) (inner : OccType) → is_timer (t.Named name inner) ≡ false
unfolding is_timer
is_timer_at_named name inner = ap is_timer (sym (t.rolls-Named name inner)) ∙ ap timer_layer (out-roll-OccType (OccType-F.Named name inner))

pub is_timer_at_channel : (carried : Protocol) → is_timer (t.Channel carried) ≡ false
unfolding is_timer
is_timer_at_channel carried = ap is_timer (sym (t.rolls-Channel carried)) ∙ ap timer_layer (out-roll-OccType (OccType-F.Channel carried))

pub is_timer_at_timer : is_timer t.Timer ≡ true
unfolding is_timer
is_timer_at_timer = ap is_timer (sym t.rolls-Timer) ∙ ap timer_layer (out-roll-OccType OccType-F.Timer)

pub is_timer_at_unknown : is_timer t.Unknown ≡ false
unfolding is_timer
is_timer_at_unknown = ap is_timer (sym t.rolls-Unknown) ∙ ap timer_layer (out-roll-OccType OccType-F.Unknown)

pub is_unknown_at_primitive : (x : Primitive) → is_unknown (t.Primitive x) ≡ false
unfolding is_unknown
is_unknown_at_primitive x = ap is_unknown (sym (t.rolls-Primitive x)) ∙ ap unknown_layer (out-roll-OccType (OccType-F.Primitive x))

pub is_unknown_at_array : (n : Option ℕ) (inner : OccType) → is_unknown (t.Array n inner) ≡ false
unfolding is_unknown
is_unknown_at_array n inner = ap is_unknown (sym (t.rolls-Array n inner)) ∙ ap unknown_layer (out-roll-OccType (OccType-F.Array n inner))

pub is_unknown_at_record : (packing : Packing) (fields : List Field) → is_unknown (t.Record packing fields) ≡ false
unfolding is_unknown
is_unknown_at_record packing fields = ap is_unknown (sym (t.rolls-Record packing fields)) ∙ ap unknown_layer (out-roll-OccType (OccType-F.Record packing fields))

pub is_unknown_at_named : (name : List ℕ) (inner : OccType) → is_unknown (t.Named name inner) ≡ false
unfolding is_unknown
is_unknown_at_named name inner = ap is_unknown (sym (t.rolls-Named name inner)) ∙ ap unknown_layer (out-roll-OccType (OccType-F.Named name inner))

pub is_unknown_at_channel : (carried : Protocol) → is_unknown (t.Channel carried) ≡ false
unfolding is_unknown
is_unknown_at_channel carried = ap is_unknown (sym (t.rolls-Channel carried)) ∙ ap unknown_layer (out-roll-OccType (OccType-F.Channel carried))

pub is_unknown_at_timer : is_unknown t.Timer ≡ false
unfolding is_unknown
is_unknown_at_timer = ap is_unknown (sym t.rolls-Timer) ∙ ap unknown_layer (out-roll-OccType OccType-F.Timer)

pub is_unknown_at_unknown : is_unknown t.Unknown ≡ true
unfolding is_unknown
is_unknown_at_unknown = ap is_unknown (sym t.rolls-Unknown) ∙ ap unknown_layer (out-roll-OccType OccType-F.Unknown)

pub is_any_at_any : is_any p.Any ≡ true
unfolding is_any
is_any_at_any = ap is_any (sym p.rolls-Any) ∙ ap any_layer (out-roll-Protocol Protocol-F.Any)

pub is_any_at_sequence : (items : List Item) → is_any (p.Sequence items) ≡ false
unfolding is_any
is_any_at_sequence items = ap is_any (sym (p.rolls-Sequence items)) ∙ ap any_layer (out-roll-Protocol (Protocol-F.Sequence items))

pub is_any_at_variant : (tags : List Tag) → is_any (p.Variant tags) ≡ false
unfolding is_any
is_any_at_variant tags = ap is_any (sym (p.rolls-Variant tags)) ∙ ap any_layer (out-roll-Protocol (Protocol-F.Variant tags))

pub is_any_at_defined : (name : List ℕ) (inner : Protocol) → is_any (p.Defined name inner) ≡ false
unfolding is_any
is_any_at_defined name inner = ap is_any (sym (p.rolls-Defined name inner)) ∙ ap any_layer (out-roll-Protocol (Protocol-F.Defined name inner))

pub as_sequence_at_any : as_sequence p.Any ≡ None
unfolding as_sequence
as_sequence_at_any = ap as_sequence (sym p.rolls-Any) ∙ ap sequence_layer (out-roll-Protocol Protocol-F.Any)

pub as_sequence_at_sequence : (items : List Item) → as_sequence (p.Sequence items) ≡ Some items
unfolding as_sequence
as_sequence_at_sequence items = ap as_sequence (sym (p.rolls-Sequence items)) ∙ ap sequence_layer (out-roll-Protocol (Protocol-F.Sequence items))

pub as_sequence_at_variant : (tags : List Tag) → as_sequence (p.Variant tags) ≡ None
unfolding as_sequence
as_sequence_at_variant tags = ap as_sequence (sym (p.rolls-Variant tags)) ∙ ap sequence_layer (out-roll-Protocol (Protocol-F.Variant tags))

pub as_sequence_at_defined : (name : List ℕ) (inner : Protocol) → as_sequence (p.Defined name inner) ≡ None
unfolding as_sequence
as_sequence_at_defined name inner = ap as_sequence (sym (p.rolls-Defined name inner)) ∙ ap sequence_layer (out-roll-Protocol (Protocol-F.Defined name inner))

pub as_variant_at_any : as_variant p.Any ≡ None
unfolding as_variant
as_variant_at_any = ap as_variant (sym p.rolls-Any) ∙ ap variant_layer (out-roll-Protocol Protocol-F.Any)

pub as_variant_at_sequence : (items : List Item) → as_variant (p.Sequence items) ≡ None
unfolding as_variant
as_variant_at_sequence items = ap as_variant (sym (p.rolls-Sequence items)) ∙ ap variant_layer (out-roll-Protocol (Protocol-F.Sequence items))

pub as_variant_at_variant : (tags : List Tag) → as_variant (p.Variant tags) ≡ Some tags
unfolding as_variant
as_variant_at_variant tags = ap as_variant (sym (p.rolls-Variant tags)) ∙ ap variant_layer (out-roll-Protocol (Protocol-F.Variant tags))

pub as_variant_at_defined : (name : List ℕ) (inner : Protocol) → as_variant (p.Defined name inner) ≡ None
unfolding as_variant
as_variant_at_defined name inner = ap as_variant (sym (p.rolls-Defined name inner)) ∙ ap variant_layer (out-roll-Protocol (Protocol-F.Defined name inner))

pub as_defined_at_any : as_defined p.Any ≡ None
unfolding as_defined
as_defined_at_any = ap as_defined (sym p.rolls-Any) ∙ ap defined_layer (out-roll-Protocol Protocol-F.Any)

pub as_defined_at_sequence : (items : List Item) → as_defined (p.Sequence items) ≡ None
unfolding as_defined
as_defined_at_sequence items = ap as_defined (sym (p.rolls-Sequence items)) ∙ ap defined_layer (out-roll-Protocol (Protocol-F.Sequence items))

pub as_defined_at_variant : (tags : List Tag) → as_defined (p.Variant tags) ≡ None
unfolding as_defined
as_defined_at_variant tags = ap as_defined (sym (p.rolls-Variant tags)) ∙ ap defined_layer (out-roll-Protocol (Protocol-F.Variant tags))

pub as_defined_at_defined : (name : List ℕ) (inner : Protocol) → as_defined (p.Defined name inner) ≡ Some (name, inner)
unfolding as_defined
as_defined_at_defined name inner = ap as_defined (sym (p.rolls-Defined name inner)) ∙ ap defined_layer (out-roll-Protocol (Protocol-F.Defined name inner))

pub as_value_at_value : (of : OccType) → as_value (i.Value of) ≡ Some of
unfolding as_value
as_value_at_value of = ap as_value (sym (i.rolls-Value of)) ∙ ap value_layer (out-roll-Item (Item-F.Value of))

pub as_value_at_counted : (count : Primitive) (of : OccType) → as_value (i.Counted count of) ≡ None
unfolding as_value
as_value_at_counted count of = ap as_value (sym (i.rolls-Counted count of)) ∙ ap value_layer (out-roll-Item (Item-F.Counted count of))

pub as_counted_at_value : (of : OccType) → as_counted (i.Value of) ≡ None
unfolding as_counted
as_counted_at_value of = ap as_counted (sym (i.rolls-Value of)) ∙ ap counted_layer (out-roll-Item (Item-F.Value of))

pub as_counted_at_counted : (count : Primitive) (of : OccType) → as_counted (i.Counted count of) ≡ Some (count, of)
unfolding as_counted
as_counted_at_counted count of = ap as_counted (sym (i.rolls-Counted count of)) ∙ ap counted_layer (out-roll-Item (Item-F.Counted count of))

-- what agrees with the unknown type is unknown
unknown_fits_layer : (y : Layer) → fits (roll-OccType y) t.Unknown ≡ unknown_layer y
unknown_fits_layer (OccType-F.Primitive x) = ap (λ (f : OccType → Bool). f t.Unknown) (fold-roll-OccType (Item → Bool) (OccType → Bool) (Protocol → Bool) (Field → Bool) (Tag → Bool) item_step type_step protocol_step field_step tag_step (OccType-F.Primitive x)) ∙ ap (primitive_fits x) as_primitive_at_unknown
unknown_fits_layer (OccType-F.Array n inner) = ap (λ (f : OccType → Bool). f t.Unknown) (fold-roll-OccType (Item → Bool) (OccType → Bool) (Protocol → Bool) (Field → Bool) (Tag → Bool) item_step type_step protocol_step field_step tag_step (OccType-F.Array n inner)) ∙ ap (array_fits n (fits inner)) as_array_at_unknown
unknown_fits_layer (OccType-F.Record packing fields) = ap (λ (f : OccType → Bool). f t.Unknown) (fold-roll-OccType (Item → Bool) (OccType → Bool) (Protocol → Bool) (Field → Bool) (Tag → Bool) item_step type_step protocol_step field_step tag_step (OccType-F.Record packing fields)) ∙ ap (record_fits packing (map (fold-Field (Item → Bool) (OccType → Bool) (Protocol → Bool) (Field → Bool) (Tag → Bool) item_step type_step protocol_step field_step tag_step) fields)) as_record_at_unknown
unknown_fits_layer (OccType-F.Named name inner) = ap (λ (f : OccType → Bool). f t.Unknown) (fold-roll-OccType (Item → Bool) (OccType → Bool) (Protocol → Bool) (Field → Bool) (Tag → Bool) item_step type_step protocol_step field_step tag_step (OccType-F.Named name inner)) ∙ ap (named_fits name (fits inner)) as_named_at_unknown
unknown_fits_layer (OccType-F.Channel carried) = ap (λ (f : OccType → Bool). f t.Unknown) (fold-roll-OccType (Item → Bool) (OccType → Bool) (Protocol → Bool) (Field → Bool) (Tag → Bool) item_step type_step protocol_step field_step tag_step (OccType-F.Channel carried)) ∙ ap (channel_fits (protocol_fits carried)) as_channel_at_unknown
unknown_fits_layer OccType-F.Timer = ap (λ (f : OccType → Bool). f t.Unknown) (fold-roll-OccType (Item → Bool) (OccType → Bool) (Protocol → Bool) (Field → Bool) (Tag → Bool) item_step type_step protocol_step field_step tag_step OccType-F.Timer) ∙ is_timer_at_unknown
unknown_fits_layer OccType-F.Unknown = ap (λ (f : OccType → Bool). f t.Unknown) (fold-roll-OccType (Item → Bool) (OccType → Bool) (Protocol → Bool) (Field → Bool) (Tag → Bool) item_step type_step protocol_step field_step tag_step OccType-F.Unknown) ∙ is_unknown_at_unknown

unknown_fits : (u : OccType) → fits u t.Unknown ≡ is_unknown u
unfolding is_unknown
unknown_fits u = ap (λ (v : OccType). fits v t.Unknown) (sym (roll-out-OccType u)) ∙ unknown_fits_layer (out-OccType u)

unknown_item_fits_layer : (y : ItemLayer) → item_fits (roll-Item y) (i.Value t.Unknown) ≡ unknown_value (value_layer y)
unknown_item_fits_layer (Item-F.Value of) = ap (λ (f : Item → Bool). f (i.Value t.Unknown)) (fold-roll-Item (Item → Bool) (OccType → Bool) (Protocol → Bool) (Field → Bool) (Tag → Bool) item_step type_step protocol_step field_step tag_step (Item-F.Value of)) ∙ ap (value_fits (fits of)) (as_value_at_value t.Unknown) ∙ unknown_fits of
unknown_item_fits_layer (Item-F.Counted count of) = ap (λ (f : Item → Bool). f (i.Value t.Unknown)) (fold-roll-Item (Item → Bool) (OccType → Bool) (Protocol → Bool) (Field → Bool) (Tag → Bool) item_step type_step protocol_step field_step tag_step (Item-F.Counted count of)) ∙ ap (counted_fits count (fits of)) (as_counted_at_value t.Unknown)

unknown_item_fits : (x : Item) → item_fits x (i.Value t.Unknown) ≡ is_unknown_item x
unfolding as_value
unknown_item_fits x = ap (λ (v : Item). item_fits v (i.Value t.Unknown)) (sym (roll-out-Item x)) ∙ unknown_item_fits_layer (out-Item x)

unknown_items_fit : (xs : List Item) → list_any (λ (f : Item → Bool). f (i.Value t.Unknown)) (map item_fits xs) ≡ list_any is_unknown_item xs
unknown_items_fit [] = refl
unknown_items_fit (x ∷ xs) =
    ap (λ (b : Bool). b || list_any (λ (f : Item → Bool). f (i.Value t.Unknown)) (map item_fits xs)) (unknown_item_fits x)
    ∙ ap (λ (b : Bool). is_unknown_item x || b) (unknown_items_fit xs)

field_folds : (f g : Field) → fold-Field (Item → Bool) (OccType → Bool) (Protocol → Bool) (Field → Bool) (Tag → Bool) item_step type_step protocol_step field_step tag_step f g ≡ field_fits f g
field_folds f g =
    ap (λ (h : Field → Bool). h g) (ap (fold-Field (Item → Bool) (OccType → Bool) (Protocol → Bool) (Field → Bool) (Tag → Bool) item_step type_step protocol_step field_step tag_step) (sym (roll-out-Field f)) ∙ fold-roll-Field (Item → Bool) (OccType → Bool) (Protocol → Bool) (Field → Bool) (Tag → Bool) item_step type_step protocol_step field_step tag_step (out-Field f))
    ∙ ap (λ (b : Bool). is_same_name f.name g.name && (b || is_unknown g.of || fits f.of g.of)) (unknown_fits f.of)

fields_fold : (fs gs : List Field) → all_fit (map (fold-Field (Item → Bool) (OccType → Bool) (Protocol → Bool) (Field → Bool) (Tag → Bool) item_step type_step protocol_step field_step tag_step) fs) gs ≡ fields_fit fs gs
fields_fold [] [] = refl
fields_fold [] (g ∷ gs) = refl
fields_fold (f ∷ fs) [] = refl
fields_fold (f ∷ fs) (g ∷ gs) = ap (λ (b : Bool). b && all_fit (map (fold-Field (Item → Bool) (OccType → Bool) (Protocol → Bool) (Field → Bool) (Tag → Bool) item_step type_step protocol_step field_step tag_step) fs) gs) (field_folds f g) ∙ ap (λ (b : Bool). field_fits f g && b) (fields_fold fs gs)

tag_folds : (t u : Tag) → fold-Tag (Item → Bool) (OccType → Bool) (Protocol → Bool) (Field → Bool) (Tag → Bool) item_step type_step protocol_step field_step tag_step t u ≡ tag_fits t u
tag_folds t u =
    ap (λ (h : Tag → Bool). h u) (ap (fold-Tag (Item → Bool) (OccType → Bool) (Protocol → Bool) (Field → Bool) (Tag → Bool) item_step type_step protocol_step field_step tag_step) (sym (roll-out-Tag t)) ∙ fold-roll-Tag (Item → Bool) (OccType → Bool) (Protocol → Bool) (Field → Bool) (Tag → Bool) item_step type_step protocol_step field_step tag_step (out-Tag t))
    ∙ ap (λ (b : Bool). is_same_name t.name u.name && (b || is_faulty_tag u || items_fit t.items u.items)) (unknown_items_fit t.items)

tags_fold : (ts us : List Tag) → all_fit (map (fold-Tag (Item → Bool) (OccType → Bool) (Protocol → Bool) (Field → Bool) (Tag → Bool) item_step type_step protocol_step field_step tag_step) ts) us ≡ tags_fit ts us
tags_fold [] [] = refl
tags_fold [] (u ∷ us) = refl
tags_fold (t ∷ ts) [] = refl
tags_fold (t ∷ ts) (u ∷ us) = ap (λ (b : Bool). b && all_fit (map (fold-Tag (Item → Bool) (OccType → Bool) (Protocol → Bool) (Field → Bool) (Tag → Bool) item_step type_step protocol_step field_step tag_step) ts) us) (tag_folds t u) ∙ ap (λ (b : Bool). tag_fits t u && b) (tags_fold ts us)

records_fold : (packing : Packing) (fields : List Field) (o : Option (Packing × List Field)) → record_fits packing (map (fold-Field (Item → Bool) (OccType → Bool) (Protocol → Bool) (Field → Bool) (Tag → Bool) item_step type_step protocol_step field_step tag_step) fields) o ≡ record_fits packing (map field_fits fields) o
records_fold packing fields None = refl
records_fold packing fields (Some o) = ap (λ (b : Bool). is_same_packing packing o.0 && b) (fields_fold fields o.1)

variants_fold : (tags : List Tag) (o : Option (List Tag)) → variant_fits (map (fold-Tag (Item → Bool) (OccType → Bool) (Protocol → Bool) (Field → Bool) (Tag → Bool) item_step type_step protocol_step field_step tag_step) tags) o ≡ variant_fits (map tag_fits tags) o
variants_fold tags None = refl
variants_fold tags (Some us) = tags_fold tags us

pub fits_of_primitive : (x : Primitive) (u : OccType) → fits (t.Primitive x) u ≡ primitive_fits x (as_primitive u)
fits_of_primitive x u = ap (λ (f : OccType → Bool). f u) (ap fits (sym (t.rolls-Primitive x)) ∙ fold-roll-OccType (Item → Bool) (OccType → Bool) (Protocol → Bool) (Field → Bool) (Tag → Bool) item_step type_step protocol_step field_step tag_step (OccType-F.Primitive x))

pub fits_of_array : (n : Option ℕ) (inner : OccType) (u : OccType) → fits (t.Array n inner) u ≡ array_fits n (fits inner) (as_array u)
fits_of_array n inner u = ap (λ (f : OccType → Bool). f u) (ap fits (sym (t.rolls-Array n inner)) ∙ fold-roll-OccType (Item → Bool) (OccType → Bool) (Protocol → Bool) (Field → Bool) (Tag → Bool) item_step type_step protocol_step field_step tag_step (OccType-F.Array n inner))

pub fits_of_record : (packing : Packing) (fields : List Field) (u : OccType) → fits (t.Record packing fields) u ≡ record_fits packing (map field_fits fields) (as_record u)
fits_of_record packing fields u = ap (λ (f : OccType → Bool). f u) (ap fits (sym (t.rolls-Record packing fields)) ∙ fold-roll-OccType (Item → Bool) (OccType → Bool) (Protocol → Bool) (Field → Bool) (Tag → Bool) item_step type_step protocol_step field_step tag_step (OccType-F.Record packing fields)) ∙ records_fold packing fields (as_record u)

pub fits_of_named : (name : List ℕ) (inner : OccType) (u : OccType) → fits (t.Named name inner) u ≡ named_fits name (fits inner) (as_named u)
fits_of_named name inner u = ap (λ (f : OccType → Bool). f u) (ap fits (sym (t.rolls-Named name inner)) ∙ fold-roll-OccType (Item → Bool) (OccType → Bool) (Protocol → Bool) (Field → Bool) (Tag → Bool) item_step type_step protocol_step field_step tag_step (OccType-F.Named name inner))

pub fits_of_channel : (carried : Protocol) (u : OccType) → fits (t.Channel carried) u ≡ channel_fits (protocol_fits carried) (as_channel u)
fits_of_channel carried u = ap (λ (f : OccType → Bool). f u) (ap fits (sym (t.rolls-Channel carried)) ∙ fold-roll-OccType (Item → Bool) (OccType → Bool) (Protocol → Bool) (Field → Bool) (Tag → Bool) item_step type_step protocol_step field_step tag_step (OccType-F.Channel carried))

pub fits_of_timer : (u : OccType) → fits t.Timer u ≡ is_timer u
fits_of_timer u = ap (λ (f : OccType → Bool). f u) (ap fits (sym t.rolls-Timer) ∙ fold-roll-OccType (Item → Bool) (OccType → Bool) (Protocol → Bool) (Field → Bool) (Tag → Bool) item_step type_step protocol_step field_step tag_step OccType-F.Timer)

pub fits_of_unknown : (u : OccType) → fits t.Unknown u ≡ is_unknown u
fits_of_unknown u = ap (λ (f : OccType → Bool). f u) (ap fits (sym t.rolls-Unknown) ∙ fold-roll-OccType (Item → Bool) (OccType → Bool) (Protocol → Bool) (Field → Bool) (Tag → Bool) item_step type_step protocol_step field_step tag_step OccType-F.Unknown)

pub protocol_fits_of_any : (u : Protocol) → protocol_fits p.Any u ≡ is_any u
protocol_fits_of_any u = ap (λ (f : Protocol → Bool). f u) (ap protocol_fits (sym p.rolls-Any) ∙ fold-roll-Protocol (Item → Bool) (OccType → Bool) (Protocol → Bool) (Field → Bool) (Tag → Bool) item_step type_step protocol_step field_step tag_step Protocol-F.Any)

pub protocol_fits_of_sequence : (items : List Item) (u : Protocol) → protocol_fits (p.Sequence items) u ≡ sequence_fits (map item_fits items) (as_sequence u)
protocol_fits_of_sequence items u = ap (λ (f : Protocol → Bool). f u) (ap protocol_fits (sym (p.rolls-Sequence items)) ∙ fold-roll-Protocol (Item → Bool) (OccType → Bool) (Protocol → Bool) (Field → Bool) (Tag → Bool) item_step type_step protocol_step field_step tag_step (Protocol-F.Sequence items))

pub protocol_fits_of_variant : (tags : List Tag) (u : Protocol) → protocol_fits (p.Variant tags) u ≡ variant_fits (map tag_fits tags) (as_variant u)
protocol_fits_of_variant tags u = ap (λ (f : Protocol → Bool). f u) (ap protocol_fits (sym (p.rolls-Variant tags)) ∙ fold-roll-Protocol (Item → Bool) (OccType → Bool) (Protocol → Bool) (Field → Bool) (Tag → Bool) item_step type_step protocol_step field_step tag_step (Protocol-F.Variant tags)) ∙ variants_fold tags (as_variant u)

pub protocol_fits_of_defined : (name : List ℕ) (inner : Protocol) (u : Protocol) → protocol_fits (p.Defined name inner) u ≡ defined_fits name (protocol_fits inner) (as_defined u)
protocol_fits_of_defined name inner u = ap (λ (f : Protocol → Bool). f u) (ap protocol_fits (sym (p.rolls-Defined name inner)) ∙ fold-roll-Protocol (Item → Bool) (OccType → Bool) (Protocol → Bool) (Field → Bool) (Tag → Bool) item_step type_step protocol_step field_step tag_step (Protocol-F.Defined name inner))

pub item_fits_of_value : (of : OccType) (u : Item) → item_fits (i.Value of) u ≡ value_fits (fits of) (as_value u)
item_fits_of_value of u = ap (λ (f : Item → Bool). f u) (ap item_fits (sym (i.rolls-Value of)) ∙ fold-roll-Item (Item → Bool) (OccType → Bool) (Protocol → Bool) (Field → Bool) (Tag → Bool) item_step type_step protocol_step field_step tag_step (Item-F.Value of))

pub item_fits_of_counted : (count : Primitive) (of : OccType) (u : Item) → item_fits (i.Counted count of) u ≡ counted_fits count (fits of) (as_counted u)
item_fits_of_counted count of u = ap (λ (f : Item → Bool). f u) (ap item_fits (sym (i.rolls-Counted count of)) ∙ fold-roll-Item (Item → Bool) (OccType → Bool) (Protocol → Bool) (Field → Bool) (Tag → Bool) item_step type_step protocol_step field_step tag_step (Item-F.Counted count of))

pub unnamed_of_primitive : (x : Primitive) → unnamed (t.Primitive x) ≡ (t.Primitive x)
unfolding unnamed
unnamed_of_primitive x = ap (λ (f : OccType → OccType). f (t.Primitive x)) (ap (fold-OccType (Unit {0}) (OccType → OccType) (Unit {0}) (Unit {0}) (Unit {0}) (λ _. tt) (beneath_step (λ u. u)) (λ _. tt) (λ _. tt) (λ _. tt)) (sym (t.rolls-Primitive x)) ∙ fold-roll-OccType (Unit {0}) (OccType → OccType) (Unit {0}) (Unit {0}) (Unit {0}) (λ _. tt) (beneath_step (λ u. u)) (λ _. tt) (λ _. tt) (λ _. tt) (OccType-F.Primitive x))

pub unnamed_of_array : (n : Option ℕ) (inner : OccType) → unnamed (t.Array n inner) ≡ (t.Array n inner)
unfolding unnamed
unnamed_of_array n inner = ap (λ (f : OccType → OccType). f (t.Array n inner)) (ap (fold-OccType (Unit {0}) (OccType → OccType) (Unit {0}) (Unit {0}) (Unit {0}) (λ _. tt) (beneath_step (λ u. u)) (λ _. tt) (λ _. tt) (λ _. tt)) (sym (t.rolls-Array n inner)) ∙ fold-roll-OccType (Unit {0}) (OccType → OccType) (Unit {0}) (Unit {0}) (Unit {0}) (λ _. tt) (beneath_step (λ u. u)) (λ _. tt) (λ _. tt) (λ _. tt) (OccType-F.Array n inner))

pub unnamed_of_record : (packing : Packing) (fields : List Field) → unnamed (t.Record packing fields) ≡ (t.Record packing fields)
unfolding unnamed
unnamed_of_record packing fields = ap (λ (f : OccType → OccType). f (t.Record packing fields)) (ap (fold-OccType (Unit {0}) (OccType → OccType) (Unit {0}) (Unit {0}) (Unit {0}) (λ _. tt) (beneath_step (λ u. u)) (λ _. tt) (λ _. tt) (λ _. tt)) (sym (t.rolls-Record packing fields)) ∙ fold-roll-OccType (Unit {0}) (OccType → OccType) (Unit {0}) (Unit {0}) (Unit {0}) (λ _. tt) (beneath_step (λ u. u)) (λ _. tt) (λ _. tt) (λ _. tt) (OccType-F.Record packing fields))

pub unnamed_of_named : (name : List ℕ) (inner : OccType) → unnamed (t.Named name inner) ≡ unnamed inner
unfolding unnamed
unnamed_of_named name inner = ap (λ (f : OccType → OccType). f (t.Named name inner)) (ap (fold-OccType (Unit {0}) (OccType → OccType) (Unit {0}) (Unit {0}) (Unit {0}) (λ _. tt) (beneath_step (λ u. u)) (λ _. tt) (λ _. tt) (λ _. tt)) (sym (t.rolls-Named name inner)) ∙ fold-roll-OccType (Unit {0}) (OccType → OccType) (Unit {0}) (Unit {0}) (Unit {0}) (λ _. tt) (beneath_step (λ u. u)) (λ _. tt) (λ _. tt) (λ _. tt) (OccType-F.Named name inner)) ∙ ap (through_name (t.Named name inner) (fold-OccType (Unit {0}) (OccType → OccType) (Unit {0}) (Unit {0}) (Unit {0}) (λ _. tt) (beneath_step (λ u. u)) (λ _. tt) (λ _. tt) (λ _. tt) inner)) (as_named_at_named name inner)

pub unnamed_of_channel : (carried : Protocol) → unnamed (t.Channel carried) ≡ (t.Channel carried)
unfolding unnamed
unnamed_of_channel carried = ap (λ (f : OccType → OccType). f (t.Channel carried)) (ap (fold-OccType (Unit {0}) (OccType → OccType) (Unit {0}) (Unit {0}) (Unit {0}) (λ _. tt) (beneath_step (λ u. u)) (λ _. tt) (λ _. tt) (λ _. tt)) (sym (t.rolls-Channel carried)) ∙ fold-roll-OccType (Unit {0}) (OccType → OccType) (Unit {0}) (Unit {0}) (Unit {0}) (λ _. tt) (beneath_step (λ u. u)) (λ _. tt) (λ _. tt) (λ _. tt) (OccType-F.Channel carried))

pub unnamed_of_timer : unnamed t.Timer ≡ t.Timer
unfolding unnamed
unnamed_of_timer = ap (λ (f : OccType → OccType). f t.Timer) (ap (fold-OccType (Unit {0}) (OccType → OccType) (Unit {0}) (Unit {0}) (Unit {0}) (λ _. tt) (beneath_step (λ u. u)) (λ _. tt) (λ _. tt) (λ _. tt)) (sym t.rolls-Timer) ∙ fold-roll-OccType (Unit {0}) (OccType → OccType) (Unit {0}) (Unit {0}) (Unit {0}) (λ _. tt) (beneath_step (λ u. u)) (λ _. tt) (λ _. tt) (λ _. tt) OccType-F.Timer)

pub unnamed_of_unknown : unnamed t.Unknown ≡ t.Unknown
unfolding unnamed
unnamed_of_unknown = ap (λ (f : OccType → OccType). f t.Unknown) (ap (fold-OccType (Unit {0}) (OccType → OccType) (Unit {0}) (Unit {0}) (Unit {0}) (λ _. tt) (beneath_step (λ u. u)) (λ _. tt) (λ _. tt) (λ _. tt)) (sym t.rolls-Unknown) ∙ fold-roll-OccType (Unit {0}) (OccType → OccType) (Unit {0}) (Unit {0}) (Unit {0}) (λ _. tt) (beneath_step (λ u. u)) (λ _. tt) (λ _. tt) (λ _. tt) OccType-F.Unknown)

no_primitive_layer : (y : Layer) → (((x : Primitive) → roll-OccType y ≢ t.Primitive x)) → primitive_layer y ≡ None
no_primitive_layer (OccType-F.Primitive x) h = absurd (h x (t.rolls-Primitive x))
no_primitive_layer (OccType-F.Array n inner) h = refl
no_primitive_layer (OccType-F.Record packing fields) h = refl
no_primitive_layer (OccType-F.Named name inner) h = refl
no_primitive_layer (OccType-F.Channel carried) h = refl
no_primitive_layer OccType-F.Timer h = refl
no_primitive_layer OccType-F.Unknown h = refl

pub no_primitive : (u : OccType) → (((x : Primitive) → u ≢ t.Primitive x)) → as_primitive u ≡ None
unfolding as_primitive
no_primitive u h = no_primitive_layer (out-OccType u) (λ x e. h x (sym (roll-out-OccType u) ∙ e))

no_array_layer : (y : Layer) → (((n : Option ℕ) (inner : OccType) → roll-OccType y ≢ t.Array n inner)) → array_layer y ≡ None
no_array_layer (OccType-F.Primitive x) h = refl
no_array_layer (OccType-F.Array n inner) h = absurd (h n inner (t.rolls-Array n inner))
no_array_layer (OccType-F.Record packing fields) h = refl
no_array_layer (OccType-F.Named name inner) h = refl
no_array_layer (OccType-F.Channel carried) h = refl
no_array_layer OccType-F.Timer h = refl
no_array_layer OccType-F.Unknown h = refl

pub no_array : (u : OccType) → (((n : Option ℕ) (inner : OccType) → u ≢ t.Array n inner)) → as_array u ≡ None
unfolding as_array
no_array u h = no_array_layer (out-OccType u) (λ n inner e. h n inner (sym (roll-out-OccType u) ∙ e))

no_record_layer : (y : Layer) → (((packing : Packing) (fields : List Field) → roll-OccType y ≢ t.Record packing fields)) → record_layer y ≡ None
no_record_layer (OccType-F.Primitive x) h = refl
no_record_layer (OccType-F.Array n inner) h = refl
no_record_layer (OccType-F.Record packing fields) h = absurd (h packing fields (t.rolls-Record packing fields))
no_record_layer (OccType-F.Named name inner) h = refl
no_record_layer (OccType-F.Channel carried) h = refl
no_record_layer OccType-F.Timer h = refl
no_record_layer OccType-F.Unknown h = refl

pub no_record : (u : OccType) → (((packing : Packing) (fields : List Field) → u ≢ t.Record packing fields)) → as_record u ≡ None
unfolding as_record
no_record u h = no_record_layer (out-OccType u) (λ packing fields e. h packing fields (sym (roll-out-OccType u) ∙ e))

no_named_layer : (y : Layer) → (((name : List ℕ) (inner : OccType) → roll-OccType y ≢ t.Named name inner)) → named_layer y ≡ None
no_named_layer (OccType-F.Primitive x) h = refl
no_named_layer (OccType-F.Array n inner) h = refl
no_named_layer (OccType-F.Record packing fields) h = refl
no_named_layer (OccType-F.Named name inner) h = absurd (h name inner (t.rolls-Named name inner))
no_named_layer (OccType-F.Channel carried) h = refl
no_named_layer OccType-F.Timer h = refl
no_named_layer OccType-F.Unknown h = refl

pub no_named : (u : OccType) → (((name : List ℕ) (inner : OccType) → u ≢ t.Named name inner)) → as_named u ≡ None
unfolding as_named
no_named u h = no_named_layer (out-OccType u) (λ name inner e. h name inner (sym (roll-out-OccType u) ∙ e))

no_channel_layer : (y : Layer) → (((carried : Protocol) → roll-OccType y ≢ t.Channel carried)) → channel_layer y ≡ None
no_channel_layer (OccType-F.Primitive x) h = refl
no_channel_layer (OccType-F.Array n inner) h = refl
no_channel_layer (OccType-F.Record packing fields) h = refl
no_channel_layer (OccType-F.Named name inner) h = refl
no_channel_layer (OccType-F.Channel carried) h = absurd (h carried (t.rolls-Channel carried))
no_channel_layer OccType-F.Timer h = refl
no_channel_layer OccType-F.Unknown h = refl

pub no_channel : (u : OccType) → (((carried : Protocol) → u ≢ t.Channel carried)) → as_channel u ≡ None
unfolding as_channel
no_channel u h = no_channel_layer (out-OccType u) (λ carried e. h carried (sym (roll-out-OccType u) ∙ e))

no_timer_layer : (y : Layer) → (roll-OccType y ≢ t.Timer) → timer_layer y ≡ false
no_timer_layer (OccType-F.Primitive x) h = refl
no_timer_layer (OccType-F.Array n inner) h = refl
no_timer_layer (OccType-F.Record packing fields) h = refl
no_timer_layer (OccType-F.Named name inner) h = refl
no_timer_layer (OccType-F.Channel carried) h = refl
no_timer_layer OccType-F.Timer h = absurd (h t.rolls-Timer)
no_timer_layer OccType-F.Unknown h = refl

pub no_timer : (u : OccType) → (u ≢ t.Timer) → is_timer u ≡ false
unfolding is_timer
no_timer u h = no_timer_layer (out-OccType u) (λ e. h (sym (roll-out-OccType u) ∙ e))

no_unknown_layer : (y : Layer) → (roll-OccType y ≢ t.Unknown) → unknown_layer y ≡ false
no_unknown_layer (OccType-F.Primitive x) h = refl
no_unknown_layer (OccType-F.Array n inner) h = refl
no_unknown_layer (OccType-F.Record packing fields) h = refl
no_unknown_layer (OccType-F.Named name inner) h = refl
no_unknown_layer (OccType-F.Channel carried) h = refl
no_unknown_layer OccType-F.Timer h = refl
no_unknown_layer OccType-F.Unknown h = absurd (h t.rolls-Unknown)

pub no_unknown : (u : OccType) → (u ≢ t.Unknown) → is_unknown u ≡ false
unfolding is_unknown
no_unknown u h = no_unknown_layer (out-OccType u) (λ e. h (sym (roll-out-OccType u) ∙ e))

no_any_layer : (y : ProtocolLayer) → (roll-Protocol y ≢ p.Any) → any_layer y ≡ false
no_any_layer Protocol-F.Any h = absurd (h p.rolls-Any)
no_any_layer (Protocol-F.Sequence items) h = refl
no_any_layer (Protocol-F.Variant tags) h = refl
no_any_layer (Protocol-F.Defined name inner) h = refl

pub no_any : (u : Protocol) → (u ≢ p.Any) → is_any u ≡ false
unfolding is_any
no_any u h = no_any_layer (out-Protocol u) (λ e. h (sym (roll-out-Protocol u) ∙ e))

no_sequence_layer : (y : ProtocolLayer) → (((items : List Item) → roll-Protocol y ≢ p.Sequence items)) → sequence_layer y ≡ None
no_sequence_layer Protocol-F.Any h = refl
no_sequence_layer (Protocol-F.Sequence items) h = absurd (h items (p.rolls-Sequence items))
no_sequence_layer (Protocol-F.Variant tags) h = refl
no_sequence_layer (Protocol-F.Defined name inner) h = refl

pub no_sequence : (u : Protocol) → (((items : List Item) → u ≢ p.Sequence items)) → as_sequence u ≡ None
unfolding as_sequence
no_sequence u h = no_sequence_layer (out-Protocol u) (λ items e. h items (sym (roll-out-Protocol u) ∙ e))

no_variant_layer : (y : ProtocolLayer) → (((tags : List Tag) → roll-Protocol y ≢ p.Variant tags)) → variant_layer y ≡ None
no_variant_layer Protocol-F.Any h = refl
no_variant_layer (Protocol-F.Sequence items) h = refl
no_variant_layer (Protocol-F.Variant tags) h = absurd (h tags (p.rolls-Variant tags))
no_variant_layer (Protocol-F.Defined name inner) h = refl

pub no_variant : (u : Protocol) → (((tags : List Tag) → u ≢ p.Variant tags)) → as_variant u ≡ None
unfolding as_variant
no_variant u h = no_variant_layer (out-Protocol u) (λ tags e. h tags (sym (roll-out-Protocol u) ∙ e))

no_defined_layer : (y : ProtocolLayer) → (((name : List ℕ) (inner : Protocol) → roll-Protocol y ≢ p.Defined name inner)) → defined_layer y ≡ None
no_defined_layer Protocol-F.Any h = refl
no_defined_layer (Protocol-F.Sequence items) h = refl
no_defined_layer (Protocol-F.Variant tags) h = refl
no_defined_layer (Protocol-F.Defined name inner) h = absurd (h name inner (p.rolls-Defined name inner))

pub no_defined : (u : Protocol) → (((name : List ℕ) (inner : Protocol) → u ≢ p.Defined name inner)) → as_defined u ≡ None
unfolding as_defined
no_defined u h = no_defined_layer (out-Protocol u) (λ name inner e. h name inner (sym (roll-out-Protocol u) ∙ e))

no_value_layer : (y : ItemLayer) → (((of : OccType) → roll-Item y ≢ i.Value of)) → value_layer y ≡ None
no_value_layer (Item-F.Value of) h = absurd (h of (i.rolls-Value of))
no_value_layer (Item-F.Counted count of) h = refl

pub no_value : (u : Item) → (((of : OccType) → u ≢ i.Value of)) → as_value u ≡ None
unfolding as_value
no_value u h = no_value_layer (out-Item u) (λ of e. h of (sym (roll-out-Item u) ∙ e))

no_counted_layer : (y : ItemLayer) → (((count : Primitive) (of : OccType) → roll-Item y ≢ i.Counted count of)) → counted_layer y ≡ None
no_counted_layer (Item-F.Value of) h = refl
no_counted_layer (Item-F.Counted count of) h = absurd (h count of (i.rolls-Counted count of))

pub no_counted : (u : Item) → (((count : Primitive) (of : OccType) → u ≢ i.Counted count of)) → as_counted u ≡ None
unfolding as_counted
no_counted u h = no_counted_layer (out-Item u) (λ count of e. h count of (sym (roll-out-Item u) ∙ e))

unnamed_layer : (y : Layer) → ((name : List ℕ) (inner : OccType) → roll-OccType y ≢ t.Named name inner) → unnamed (roll-OccType y) ≡ roll-OccType y
unnamed_layer (OccType-F.Primitive x) h = ap unnamed (t.rolls-Primitive x) ∙ unnamed_of_primitive x ∙ sym (t.rolls-Primitive x)
unnamed_layer (OccType-F.Array n inner) h = ap unnamed (t.rolls-Array n inner) ∙ unnamed_of_array n inner ∙ sym (t.rolls-Array n inner)
unnamed_layer (OccType-F.Record packing fields) h = ap unnamed (t.rolls-Record packing fields) ∙ unnamed_of_record packing fields ∙ sym (t.rolls-Record packing fields)
unnamed_layer (OccType-F.Named name inner) h = absurd (h name inner (t.rolls-Named name inner))
unnamed_layer (OccType-F.Channel carried) h = ap unnamed (t.rolls-Channel carried) ∙ unnamed_of_channel carried ∙ sym (t.rolls-Channel carried)
unnamed_layer OccType-F.Timer h = ap unnamed t.rolls-Timer ∙ unnamed_of_timer ∙ sym t.rolls-Timer
unnamed_layer OccType-F.Unknown h = ap unnamed t.rolls-Unknown ∙ unnamed_of_unknown ∙ sym t.rolls-Unknown

pub unnamed_itself : (u : OccType) → ((name : List ℕ) (inner : OccType) → u ≢ t.Named name inner) → unnamed u ≡ u
unnamed_itself u h = ap unnamed (sym (roll-out-OccType u)) ∙ unnamed_layer (out-OccType u) (λ name inner e. h name inner (sym (roll-out-OccType u) ∙ e)) ∙ roll-out-OccType u

alike_field_folds : (f g : Field) → fold-Field (Unit {0}) (OccType → Bool) (Unit {0}) (Field → Bool) (Unit {0}) (λ _. tt) alike_step (λ _. tt) alike_field_step (λ _. tt) f g ≡ field_alike f g
alike_field_folds f g =
    ap (λ (h : Field → Bool). h g) (ap (fold-Field (Unit {0}) (OccType → Bool) (Unit {0}) (Field → Bool) (Unit {0}) (λ _. tt) alike_step (λ _. tt) alike_field_step (λ _. tt)) (sym (roll-out-Field f)) ∙ fold-roll-Field (Unit {0}) (OccType → Bool) (Unit {0}) (Field → Bool) (Unit {0}) (λ _. tt) alike_step (λ _. tt) alike_field_step (λ _. tt) (out-Field f))

alike_fields_fold : (fs gs : List Field) → all_fit (map (fold-Field (Unit {0}) (OccType → Bool) (Unit {0}) (Field → Bool) (Unit {0}) (λ _. tt) alike_step (λ _. tt) alike_field_step (λ _. tt)) fs) gs ≡ fields_alike fs gs
alike_fields_fold [] [] = refl
alike_fields_fold [] (g ∷ gs) = refl
alike_fields_fold (f ∷ fs) [] = refl
alike_fields_fold (f ∷ fs) (g ∷ gs) = ap (λ (b : Bool). b && all_fit (map (fold-Field (Unit {0}) (OccType → Bool) (Unit {0}) (Field → Bool) (Unit {0}) (λ _. tt) alike_step (λ _. tt) alike_field_step (λ _. tt)) fs) gs) (alike_field_folds f g) ∙ ap (λ (b : Bool). field_alike f g && b) (alike_fields_fold fs gs)

alike_records_fold : (packing : Packing) (fields : List Field) (o : Option (Packing × List Field)) → record_fits packing (map (fold-Field (Unit {0}) (OccType → Bool) (Unit {0}) (Field → Bool) (Unit {0}) (λ _. tt) alike_step (λ _. tt) alike_field_step (λ _. tt)) fields) o ≡ record_fits packing (map field_alike fields) o
alike_records_fold packing fields None = refl
alike_records_fold packing fields (Some o) = ap (λ (b : Bool). is_same_packing packing o.0 && b) (alike_fields_fold fields o.1)

pub alike_of_primitive : (x : Primitive) (u : OccType) → alike (t.Primitive x) u ≡ primitive_fits x (as_primitive (unnamed u))
alike_of_primitive x u = ap (λ (f : OccType → Bool). f u) (ap alike (sym (t.rolls-Primitive x)) ∙ fold-roll-OccType (Unit {0}) (OccType → Bool) (Unit {0}) (Field → Bool) (Unit {0}) (λ _. tt) alike_step (λ _. tt) alike_field_step (λ _. tt) (OccType-F.Primitive x))

pub alike_of_array : (n : Option ℕ) (inner : OccType) (u : OccType) → alike (t.Array n inner) u ≡ array_fits n (alike inner) (as_array (unnamed u))
alike_of_array n inner u = ap (λ (f : OccType → Bool). f u) (ap alike (sym (t.rolls-Array n inner)) ∙ fold-roll-OccType (Unit {0}) (OccType → Bool) (Unit {0}) (Field → Bool) (Unit {0}) (λ _. tt) alike_step (λ _. tt) alike_field_step (λ _. tt) (OccType-F.Array n inner))

pub alike_of_record : (packing : Packing) (fields : List Field) (u : OccType) → alike (t.Record packing fields) u ≡ record_fits packing (map field_alike fields) (as_record (unnamed u))
alike_of_record packing fields u = ap (λ (f : OccType → Bool). f u) (ap alike (sym (t.rolls-Record packing fields)) ∙ fold-roll-OccType (Unit {0}) (OccType → Bool) (Unit {0}) (Field → Bool) (Unit {0}) (λ _. tt) alike_step (λ _. tt) alike_field_step (λ _. tt) (OccType-F.Record packing fields)) ∙ alike_records_fold packing fields (as_record (unnamed u))

pub alike_of_named : (name : List ℕ) (inner : OccType) (u : OccType) → alike (t.Named name inner) u ≡ alike inner u
alike_of_named name inner u = ap (λ (f : OccType → Bool). f u) (ap alike (sym (t.rolls-Named name inner)) ∙ fold-roll-OccType (Unit {0}) (OccType → Bool) (Unit {0}) (Field → Bool) (Unit {0}) (λ _. tt) alike_step (λ _. tt) alike_field_step (λ _. tt) (OccType-F.Named name inner))

pub alike_of_channel : (carried : Protocol) (u : OccType) → alike (t.Channel carried) u ≡ false
alike_of_channel carried u = ap (λ (f : OccType → Bool). f u) (ap alike (sym (t.rolls-Channel carried)) ∙ fold-roll-OccType (Unit {0}) (OccType → Bool) (Unit {0}) (Field → Bool) (Unit {0}) (λ _. tt) alike_step (λ _. tt) alike_field_step (λ _. tt) (OccType-F.Channel carried))

pub alike_of_timer : (u : OccType) → alike t.Timer u ≡ false
alike_of_timer u = ap (λ (f : OccType → Bool). f u) (ap alike (sym t.rolls-Timer) ∙ fold-roll-OccType (Unit {0}) (OccType → Bool) (Unit {0}) (Field → Bool) (Unit {0}) (λ _. tt) alike_step (λ _. tt) alike_field_step (λ _. tt) OccType-F.Timer)

pub alike_of_unknown : (u : OccType) → alike t.Unknown u ≡ true
alike_of_unknown u = ap (λ (f : OccType → Bool). f u) (ap alike (sym t.rolls-Unknown) ∙ fold-roll-OccType (Unit {0}) (OccType → Bool) (Unit {0}) (Field → Bool) (Unit {0}) (λ _. tt) alike_step (λ _. tt) alike_field_step (λ _. tt) OccType-F.Unknown)

pub is_data_of_primitive : (x : Primitive) → is_data (t.Primitive x) ≡ true
is_data_of_primitive x = ap is_data (sym (t.rolls-Primitive x)) ∙ fold-roll-OccType (Unit {0}) Bool (Unit {0}) (Unit {0}) (Unit {0}) (λ _. tt) data_step (λ _. tt) (λ _. tt) (λ _. tt) (OccType-F.Primitive x)

pub is_data_of_array : (n : Option ℕ) (inner : OccType) → is_data (t.Array n inner) ≡ is_data inner
is_data_of_array n inner = ap is_data (sym (t.rolls-Array n inner)) ∙ fold-roll-OccType (Unit {0}) Bool (Unit {0}) (Unit {0}) (Unit {0}) (λ _. tt) data_step (λ _. tt) (λ _. tt) (λ _. tt) (OccType-F.Array n inner)

pub is_data_of_record : (packing : Packing) (fields : List Field) → is_data (t.Record packing fields) ≡ true
is_data_of_record packing fields = ap is_data (sym (t.rolls-Record packing fields)) ∙ fold-roll-OccType (Unit {0}) Bool (Unit {0}) (Unit {0}) (Unit {0}) (λ _. tt) data_step (λ _. tt) (λ _. tt) (λ _. tt) (OccType-F.Record packing fields)

pub is_data_of_named : (name : List ℕ) (inner : OccType) → is_data (t.Named name inner) ≡ true
is_data_of_named name inner = ap is_data (sym (t.rolls-Named name inner)) ∙ fold-roll-OccType (Unit {0}) Bool (Unit {0}) (Unit {0}) (Unit {0}) (λ _. tt) data_step (λ _. tt) (λ _. tt) (λ _. tt) (OccType-F.Named name inner)

pub is_data_of_channel : (carried : Protocol) → is_data (t.Channel carried) ≡ false
is_data_of_channel carried = ap is_data (sym (t.rolls-Channel carried)) ∙ fold-roll-OccType (Unit {0}) Bool (Unit {0}) (Unit {0}) (Unit {0}) (λ _. tt) data_step (λ _. tt) (λ _. tt) (λ _. tt) (OccType-F.Channel carried)

pub is_data_of_timer : is_data t.Timer ≡ false
is_data_of_timer = ap is_data (sym t.rolls-Timer) ∙ fold-roll-OccType (Unit {0}) Bool (Unit {0}) (Unit {0}) (Unit {0}) (λ _. tt) data_step (λ _. tt) (λ _. tt) (λ _. tt) OccType-F.Timer

pub is_data_of_unknown : is_data t.Unknown ≡ true
is_data_of_unknown = ap is_data (sym t.rolls-Unknown) ∙ fold-roll-OccType (Unit {0}) Bool (Unit {0}) (Unit {0}) (Unit {0}) (λ _. tt) data_step (λ _. tt) (λ _. tt) (λ _. tt) OccType-F.Unknown

-- what the walks over two types need
pub ruleset fit_rules = (as_primitive_at_primitive, as_primitive_at_array, as_primitive_at_record, as_primitive_at_named, as_primitive_at_channel, as_primitive_at_timer, as_primitive_at_unknown, as_array_at_primitive, as_array_at_array, as_array_at_record, as_array_at_named, as_array_at_channel, as_array_at_timer, as_array_at_unknown, as_record_at_primitive, as_record_at_array, as_record_at_record, as_record_at_named, as_record_at_channel, as_record_at_timer, as_record_at_unknown, as_named_at_primitive, as_named_at_array, as_named_at_record, as_named_at_named, as_named_at_channel, as_named_at_timer, as_named_at_unknown, as_channel_at_primitive, as_channel_at_array, as_channel_at_record, as_channel_at_named, as_channel_at_channel, as_channel_at_timer, as_channel_at_unknown, is_timer_at_primitive, is_timer_at_array, is_timer_at_record, is_timer_at_named, is_timer_at_channel, is_timer_at_timer, is_timer_at_unknown, is_unknown_at_primitive, is_unknown_at_array, is_unknown_at_record, is_unknown_at_named, is_unknown_at_channel, is_unknown_at_timer, is_unknown_at_unknown, is_any_at_any, is_any_at_sequence, is_any_at_variant, is_any_at_defined, as_sequence_at_any, as_sequence_at_sequence, as_sequence_at_variant, as_sequence_at_defined, as_variant_at_any, as_variant_at_sequence, as_variant_at_variant, as_variant_at_defined, as_defined_at_any, as_defined_at_sequence, as_defined_at_variant, as_defined_at_defined, as_value_at_value, as_value_at_counted, as_counted_at_value, as_counted_at_counted, fits_of_primitive, fits_of_array, fits_of_record, fits_of_named, fits_of_channel, fits_of_timer, fits_of_unknown, protocol_fits_of_any, protocol_fits_of_sequence, protocol_fits_of_variant, protocol_fits_of_defined, item_fits_of_value, item_fits_of_counted, unnamed_of_primitive, unnamed_of_array, unnamed_of_record, unnamed_of_named, unnamed_of_channel, unnamed_of_timer, unnamed_of_unknown, no_primitive, no_array, no_record, no_named, no_channel, no_timer, no_unknown, no_any, no_sequence, no_variant, no_defined, no_value, no_counted, unnamed_itself, alike_of_primitive, alike_of_array, alike_of_record, alike_of_named, alike_of_channel, alike_of_timer, alike_of_unknown, is_data_of_primitive, is_data_of_array, is_data_of_record, is_data_of_named, is_data_of_channel, is_data_of_timer, is_data_of_unknown)
