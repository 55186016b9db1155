-- What each form of a type holds, from what its parts hold.
use Rattle.std.proofs.Common.{◌≡◌, ℕ, List, [], ◌∷◌, map, Option, Bool, true, false, refl, ap, sym, ◌∙◌}
use Rattle.occ_types.specs.declared.types.Item.TheOpen.{Item-F, OccType-F, Protocol-F}
use Rattle.occ_types.specs.declared.types.Item.TheFolds.{fold-Item, fold-Field, fold-Tag, fold-roll-Item, fold-roll-OccType, fold-roll-Protocol, fold-roll-Field, fold-roll-Tag}
use Rattle.occ_types.specs.declared.types.Item.TheViews.{roll-out-Field, roll-out-Tag}
use Rattle.occ_types.specs.declared.types.OccType.{OccType}
use Rattle.occ_types.specs.declared.types.OccType.TheVariants as t
use Rattle.occ_types.specs.declared.types.Packing.{Packing}
use Rattle.occ_types.specs.declared.types.Protocol.{Protocol}
use Rattle.occ_types.specs.declared.types.Protocol.TheVariants as p
use Rattle.occ_types.specs.declared.types.Item.{Item}
use Rattle.occ_types.specs.declared.types.Item.TheVariants as i
use Rattle.occ_types.specs.declared.types.Field.{Field, out-Field}
use Rattle.occ_types.specs.declared.types.Tag.{Tag, out-Tag}
use Rattle.occ_types.specs.declared.value.Primitive.{Primitive}
use Rattle.occ_types.specs.Unknown.{any_of, item_step, type_step, protocol_step, field_step, tag_step, item_unknown, holds_unknown, protocol_unknown, items_unknown, fields_unknown, tags_unknown}

items_fold : (is : List Item) → map (fold-Item Bool Bool Bool Bool Bool item_step type_step protocol_step field_step tag_step) is ≡ items_unknown is
items_fold [] = refl
items_fold (i ∷ is) = ap (λ (xs : List Bool). item_unknown i ∷ xs) (items_fold is)

field_folds : (f : Field) → fold-Field Bool Bool Bool Bool Bool item_step type_step protocol_step field_step tag_step f ≡ holds_unknown f.of
field_folds f = ap (fold-Field Bool Bool Bool Bool Bool item_step type_step protocol_step field_step tag_step) (sym (roll-out-Field f)) ∙ fold-roll-Field Bool Bool Bool Bool Bool item_step type_step protocol_step field_step tag_step (out-Field f)

fields_fold : (fs : List Field) → map (fold-Field Bool Bool Bool Bool Bool item_step type_step protocol_step field_step tag_step) fs ≡ fields_unknown fs
fields_fold [] = refl
fields_fold (f ∷ fs) = ap (λ (x : Bool). x ∷ map (fold-Field Bool Bool Bool Bool Bool item_step type_step protocol_step field_step tag_step) fs) (field_folds f) ∙ ap (λ (xs : List Bool). holds_unknown f.of ∷ xs) (fields_fold fs)

tag_folds : (t : Tag) → fold-Tag Bool Bool Bool Bool Bool item_step type_step protocol_step field_step tag_step t ≡ any_of (items_unknown t.items)
tag_folds t = ap (fold-Tag Bool Bool Bool Bool Bool item_step type_step protocol_step field_step tag_step) (sym (roll-out-Tag t)) ∙ fold-roll-Tag Bool Bool Bool Bool Bool item_step type_step protocol_step field_step tag_step (out-Tag t) ∙ ap any_of (items_fold t.items)

tags_fold : (ts : List Tag) → map (fold-Tag Bool Bool Bool Bool Bool item_step type_step protocol_step field_step tag_step) ts ≡ tags_unknown ts
tags_fold [] = refl
tags_fold (t ∷ ts) = ap (λ (x : Bool). x ∷ map (fold-Tag Bool Bool Bool Bool Bool item_step type_step protocol_step field_step tag_step) ts) (tag_folds t) ∙ ap (λ (xs : List Bool). any_of (items_unknown t.items) ∷ xs) (tags_fold ts)

pub unknown_primitive : (primitive : Primitive) → holds_unknown (t.Primitive primitive) ≡ false
unknown_primitive primitive = ap holds_unknown (sym (t.rolls-Primitive primitive)) ∙ fold-roll-OccType Bool Bool Bool Bool Bool item_step type_step protocol_step field_step tag_step (OccType-F.Primitive primitive)

pub unknown_array : (n : Option ℕ) (inner : OccType) → holds_unknown (t.Array n inner) ≡ (holds_unknown inner)
unknown_array n inner = ap holds_unknown (sym (t.rolls-Array n inner)) ∙ fold-roll-OccType Bool Bool Bool Bool Bool item_step type_step protocol_step field_step tag_step (OccType-F.Array n inner)

pub unknown_record : (packing : Packing) (fields : List Field) → holds_unknown (t.Record packing fields) ≡ (any_of (fields_unknown fields))
unknown_record packing fields = ap holds_unknown (sym (t.rolls-Record packing fields)) ∙ fold-roll-OccType Bool Bool Bool Bool Bool item_step type_step protocol_step field_step tag_step (OccType-F.Record packing fields) ∙ ap (λ (xs : List Bool). (any_of xs)) (fields_fold fields)

pub unknown_named : (name : List ℕ) (inner : OccType) → holds_unknown (t.Named name inner) ≡ (holds_unknown inner)
unknown_named name inner = ap holds_unknown (sym (t.rolls-Named name inner)) ∙ fold-roll-OccType Bool Bool Bool Bool Bool item_step type_step protocol_step field_step tag_step (OccType-F.Named name inner)

pub unknown_channel : (carried : Protocol) → holds_unknown (t.Channel carried) ≡ (protocol_unknown carried)
unknown_channel carried = ap holds_unknown (sym (t.rolls-Channel carried)) ∙ fold-roll-OccType Bool Bool Bool Bool Bool item_step type_step protocol_step field_step tag_step (OccType-F.Channel carried)

pub unknown_timer : holds_unknown t.Timer ≡ false
unknown_timer = ap holds_unknown (sym t.rolls-Timer) ∙ fold-roll-OccType Bool Bool Bool Bool Bool item_step type_step protocol_step field_step tag_step OccType-F.Timer

pub unknown_unknown : holds_unknown t.Unknown ≡ true
unknown_unknown = ap holds_unknown (sym t.rolls-Unknown) ∙ fold-roll-OccType Bool Bool Bool Bool Bool item_step type_step protocol_step field_step tag_step OccType-F.Unknown

pub unknown_any : protocol_unknown p.Any ≡ false
unknown_any = ap protocol_unknown (sym p.rolls-Any) ∙ fold-roll-Protocol Bool Bool Bool Bool Bool item_step type_step protocol_step field_step tag_step Protocol-F.Any

pub unknown_sequence : (items : List Item) → protocol_unknown (p.Sequence items) ≡ any_of (items_unknown items)
unknown_sequence items = ap protocol_unknown (sym (p.rolls-Sequence items)) ∙ fold-roll-Protocol Bool Bool Bool Bool Bool item_step type_step protocol_step field_step tag_step (Protocol-F.Sequence items) ∙ ap any_of (items_fold items)

pub unknown_variant : (tags : List Tag) → protocol_unknown (p.Variant tags) ≡ any_of (tags_unknown tags)
unknown_variant tags = ap protocol_unknown (sym (p.rolls-Variant tags)) ∙ fold-roll-Protocol Bool Bool Bool Bool Bool item_step type_step protocol_step field_step tag_step (Protocol-F.Variant tags) ∙ ap any_of (tags_fold tags)

pub unknown_defined : (name : List ℕ) (inner : Protocol) → protocol_unknown (p.Defined name inner) ≡ (protocol_unknown inner)
unknown_defined name inner = ap protocol_unknown (sym (p.rolls-Defined name inner)) ∙ fold-roll-Protocol Bool Bool Bool Bool Bool item_step type_step protocol_step field_step tag_step (Protocol-F.Defined name inner)

pub unknown_value : (of : OccType) → item_unknown (i.Value of) ≡ holds_unknown of
unknown_value of = ap item_unknown (sym (i.rolls-Value of)) ∙ fold-roll-Item Bool Bool Bool Bool Bool item_step type_step protocol_step field_step tag_step (Item-F.Value of)

pub unknown_counted : (count : Primitive) (of : OccType) → item_unknown (i.Counted count of) ≡ holds_unknown of
unknown_counted count of = ap item_unknown (sym (i.rolls-Counted count of)) ∙ fold-roll-Item Bool Bool Bool Bool Bool item_step type_step protocol_step field_step tag_step (Item-F.Counted count of)

pub ruleset unknown_rules = (unknown_primitive, unknown_array, unknown_record, unknown_named, unknown_channel, unknown_timer, unknown_unknown, unknown_any, unknown_sequence, unknown_variant, unknown_defined, unknown_value, unknown_counted)
