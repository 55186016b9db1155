-- Items against those of a protocol, item by item.
use Rattle.std.proofs.Common.{◌≡◌, ◌∙◌, ap, sym}
use Rattle.occ_types.specs.declared.types.Item.{Item, out-Item}
use Rattle.occ_types.specs.declared.types.Item.TheOpen.{Item-F}
use Rattle.occ_types.specs.declared.types.Item.TheVariants as i
use Rattle.occ_types.specs.declared.types.Item.TheViews.{out-roll-Item}
use Rattle.occ_types.specs.declared.types.OccType.{OccType}
use Rattle.occ_types.specs.declared.value.Primitive.{Primitive}
use Rattle.occ_protocol.specs.Matching.{meets, meets_layer}
use Rattle.occ_protocol.specs.Wanting.{wanted_for, wanted_layer}
use Rattle.occ_protocol.specs.declared.given.Given.{Given}
use Rattle.occ_protocol.specs.declared.given.Shape.{Shape}

pub meets_value : (of : OccType) (x : Given) → meets (i.Value of) x ≡ meets_layer (Item-F.Value of) x
unfolding meets
meets_value of x = ap (λ (item : Item). meets_layer (out-Item item) x) (sym (i.rolls-Value of)) ∙ ap (λ (y : Item-F _ _ _ _ _). meets_layer y x) (out-roll-Item (Item-F.Value of))

pub meets_counted : (count : Primitive) (of : OccType) (x : Given) → meets (i.Counted count of) x ≡ meets_layer (Item-F.Counted count of) x
unfolding meets
meets_counted count of x = ap (λ (item : Item). meets_layer (out-Item item) x) (sym (i.rolls-Counted count of)) ∙ ap (λ (y : Item-F _ _ _ _ _). meets_layer y x) (out-roll-Item (Item-F.Counted count of))

pub wanted_for_value : (of : OccType) (shape : Shape) → wanted_for (i.Value of) shape ≡ wanted_layer (Item-F.Value of) shape
unfolding wanted_for
wanted_for_value of shape = ap (λ (item : Item). wanted_layer (out-Item item) shape) (sym (i.rolls-Value of)) ∙ ap (λ (y : Item-F _ _ _ _ _). wanted_layer y shape) (out-roll-Item (Item-F.Value of))

pub wanted_for_counted : (count : Primitive) (of : OccType) (shape : Shape) → wanted_for (i.Counted count of) shape ≡ wanted_layer (Item-F.Counted count of) shape
unfolding wanted_for
wanted_for_counted count of shape = ap (λ (item : Item). wanted_layer (out-Item item) shape) (sym (i.rolls-Counted count of)) ∙ ap (λ (y : Item-F _ _ _ _ _). wanted_layer y shape) (out-roll-Item (Item-F.Counted count of))

pub ruleset meeting_rules = (meets_value, meets_counted)

pub ruleset wanting_rules = (wanted_for_value, wanted_for_counted)
