-- The measure of each form of a type from the measures of its parts, and measures that are held.
use Rattle.std.proofs.Common.{◌≡◌, ℕ, List, [], ◌∷◌, map, Option, refl, ap, sym, ◌∙◌, arith}
use Rattle.occ_types.specs.declared.types.Item.TheOpen.{Item-F, OccType-F, Protocol-F}
use Rattle.occ_types.specs.declared.types.Item.TheFolds.{fold-Item, fold-Field, fold-Tag, fold-roll-Item, fold-roll-OccType, fold-roll-Protocol, fold-roll-Field, fold-roll-Tag}
use Rattle.occ_types.specs.declared.types.Item.TheViews.{roll-out-Field, roll-out-Tag}
use Rattle.occ_types.specs.declared.types.OccType.{OccType}
use Rattle.occ_types.specs.declared.types.OccType.TheVariants as t
use Rattle.occ_types.specs.declared.types.Packing.{Packing}
use Rattle.occ_types.specs.declared.types.Protocol.{Protocol}
use Rattle.occ_types.specs.declared.types.Protocol.TheVariants as p
use Rattle.occ_types.specs.declared.types.Item.{Item}
use Rattle.occ_types.specs.declared.types.Item.TheVariants as i
use Rattle.occ_types.specs.declared.types.Field.{Field, out-Field}
use Rattle.occ_types.specs.declared.types.Tag.{Tag, out-Tag}
use Rattle.occ_types.specs.declared.value.Primitive.{Primitive}
use Rattle.occ_types.specs.declared.measure.Measure.{Measure}
use Rattle.occ_types.specs.Measure.{none, one, above, beside, all_of, item_step, type_step, protocol_step, field_step, tag_step, item_measure, measure_of, protocol_measure, item_measures, field_measures, tag_measures, held}

items_fold : (is : List Item) → map (fold-Item Measure Measure Measure Measure Measure item_step type_step protocol_step field_step tag_step) is ≡ item_measures is
items_fold [] = refl
items_fold (i ∷ is) = ap (λ (xs : List Measure). item_measure i ∷ xs) (items_fold is)

field_folds : (f : Field) → fold-Field Measure Measure Measure Measure Measure item_step type_step protocol_step field_step tag_step f ≡ measure_of f.of
field_folds f = ap (fold-Field Measure Measure Measure Measure Measure item_step type_step protocol_step field_step tag_step) (sym (roll-out-Field f)) ∙ fold-roll-Field Measure Measure Measure Measure Measure item_step type_step protocol_step field_step tag_step (out-Field f)

fields_fold : (fs : List Field) → map (fold-Field Measure Measure Measure Measure Measure item_step type_step protocol_step field_step tag_step) fs ≡ field_measures fs
fields_fold [] = refl
fields_fold (f ∷ fs) = ap (λ (x : Measure). x ∷ map (fold-Field Measure Measure Measure Measure Measure item_step type_step protocol_step field_step tag_step) fs) (field_folds f) ∙ ap (λ (xs : List Measure). measure_of f.of ∷ xs) (fields_fold fs)

tag_folds : (t : Tag) → fold-Tag Measure Measure Measure Measure Measure item_step type_step protocol_step field_step tag_step t ≡ all_of (item_measures t.items)
tag_folds t = ap (fold-Tag Measure Measure Measure Measure Measure item_step type_step protocol_step field_step tag_step) (sym (roll-out-Tag t)) ∙ fold-roll-Tag Measure Measure Measure Measure Measure item_step type_step protocol_step field_step tag_step (out-Tag t) ∙ ap all_of (items_fold t.items)

tags_fold : (ts : List Tag) → map (fold-Tag Measure Measure Measure Measure Measure item_step type_step protocol_step field_step tag_step) ts ≡ tag_measures ts
tags_fold [] = refl
tags_fold (t ∷ ts) = ap (λ (x : Measure). x ∷ map (fold-Tag Measure Measure Measure Measure Measure item_step type_step protocol_step field_step tag_step) ts) (tag_folds t) ∙ ap (λ (xs : List Measure). all_of (item_measures t.items) ∷ xs) (tags_fold ts)

pub measure_primitive : (primitive : Primitive) → measure_of (t.Primitive primitive) ≡ one
measure_primitive primitive = ap measure_of (sym (t.rolls-Primitive primitive)) ∙ fold-roll-OccType Measure Measure Measure Measure Measure item_step type_step protocol_step field_step tag_step (OccType-F.Primitive primitive)

pub measure_array : (n : Option ℕ) (inner : OccType) → measure_of (t.Array n inner) ≡ above (measure_of inner)
measure_array n inner = ap measure_of (sym (t.rolls-Array n inner)) ∙ fold-roll-OccType Measure Measure Measure Measure Measure item_step type_step protocol_step field_step tag_step (OccType-F.Array n inner)

pub measure_record : (packing : Packing) (fields : List Field) → measure_of (t.Record packing fields) ≡ above (all_of (field_measures fields))
measure_record packing fields = ap measure_of (sym (t.rolls-Record packing fields)) ∙ fold-roll-OccType Measure Measure Measure Measure Measure item_step type_step protocol_step field_step tag_step (OccType-F.Record packing fields) ∙ ap (λ (xs : List Measure). above (all_of xs)) (fields_fold fields)

pub measure_named : (name : List ℕ) (inner : OccType) → measure_of (t.Named name inner) ≡ above (measure_of inner)
measure_named name inner = ap measure_of (sym (t.rolls-Named name inner)) ∙ fold-roll-OccType Measure Measure Measure Measure Measure item_step type_step protocol_step field_step tag_step (OccType-F.Named name inner)

pub measure_channel : (carried : Protocol) → measure_of (t.Channel carried) ≡ above (protocol_measure carried)
measure_channel carried = ap measure_of (sym (t.rolls-Channel carried)) ∙ fold-roll-OccType Measure Measure Measure Measure Measure item_step type_step protocol_step field_step tag_step (OccType-F.Channel carried)

pub measure_timer : measure_of t.Timer ≡ one
measure_timer = ap measure_of (sym t.rolls-Timer) ∙ fold-roll-OccType Measure Measure Measure Measure Measure item_step type_step protocol_step field_step tag_step OccType-F.Timer

pub measure_unknown : measure_of t.Unknown ≡ none
measure_unknown = ap measure_of (sym t.rolls-Unknown) ∙ fold-roll-OccType Measure Measure Measure Measure Measure item_step type_step protocol_step field_step tag_step OccType-F.Unknown

pub measure_any : protocol_measure p.Any ≡ one
measure_any = ap protocol_measure (sym p.rolls-Any) ∙ fold-roll-Protocol Measure Measure Measure Measure Measure item_step type_step protocol_step field_step tag_step Protocol-F.Any

pub measure_sequence : (items : List Item) → protocol_measure (p.Sequence items) ≡ all_of (item_measures items)
measure_sequence items = ap protocol_measure (sym (p.rolls-Sequence items)) ∙ fold-roll-Protocol Measure Measure Measure Measure Measure item_step type_step protocol_step field_step tag_step (Protocol-F.Sequence items) ∙ ap all_of (items_fold items)

pub measure_variant : (tags : List Tag) → protocol_measure (p.Variant tags) ≡ all_of (tag_measures tags)
measure_variant tags = ap protocol_measure (sym (p.rolls-Variant tags)) ∙ fold-roll-Protocol Measure Measure Measure Measure Measure item_step type_step protocol_step field_step tag_step (Protocol-F.Variant tags) ∙ ap all_of (tags_fold tags)

pub measure_defined : (name : List ℕ) (inner : Protocol) → protocol_measure (p.Defined name inner) ≡ above (protocol_measure inner)
measure_defined name inner = ap protocol_measure (sym (p.rolls-Defined name inner)) ∙ fold-roll-Protocol Measure Measure Measure Measure Measure item_step type_step protocol_step field_step tag_step (Protocol-F.Defined name inner)

pub measure_value : (of : OccType) → item_measure (i.Value of) ≡ measure_of of
measure_value of = ap item_measure (sym (i.rolls-Value of)) ∙ fold-roll-Item Measure Measure Measure Measure Measure item_step type_step protocol_step field_step tag_step (Item-F.Value of)

pub measure_counted : (count : Primitive) (of : OccType) → item_measure (i.Counted count of) ≡ beside one (above (measure_of of))
measure_counted count of = ap item_measure (sym (i.rolls-Counted count of)) ∙ fold-roll-Item Measure Measure Measure Measure Measure item_step type_step protocol_step field_step tag_step (Item-F.Counted count of)

pub same_measure : (l l' n n' : ℕ) → l ≡ l' → n ≡ n' → (let a : Measure = record { levels = l; types = n } in let b : Measure = record { levels = l'; types = n' } in a ≡ b)
same_measure l l' n n' e f = ap (λ (x : ℕ). let a : Measure = record { levels = x; types = n } in a) e ∙ ap (λ (y : ℕ). let a : Measure = record { levels = l'; types = y } in a) f

pub held_held : (m : Measure) → held (held m) ≡ held m
held_held m = same_measure _ _ _ _ (omega arith) (omega arith)

pub held_above : (m : Measure) → held (above (held m)) ≡ held (above m)
held_above m = same_measure _ _ _ _ (omega arith) (omega arith)

pub held_beside : (a b : Measure) → held (beside (held a) (held b)) ≡ held (beside a b)
held_beside a b = same_measure _ _ _ _ (omega arith) (omega arith)

pub held_end : (found all : Measure) → held (beside found none) ≡ held all → held found ≡ found → found ≡ held all
held_end found all e h = sym h ∙ sym (same_measure _ _ _ _ (omega arith) (omega arith)) ∙ e

-- one more part is added
pub held_step : (found m rest : Measure) → held (beside (held (beside found (held m))) rest) ≡ held (beside found (beside m rest))
held_step found m rest = same_measure _ _ _ _ (omega arith) (omega arith)

-- what the walks over a type need
pub ruleset measure_rules = (measure_primitive, measure_array, measure_record, measure_named, measure_channel, measure_timer, measure_unknown, measure_any, measure_sequence, measure_variant, measure_defined, measure_value, measure_counted, held_above, held_beside, held_held, held_step, held_end)
