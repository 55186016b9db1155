use Rattle.std.proofs.Common.{arith}
use Rattle.std.proofs.lemmas.Grind.{common_steps}
use Rattle.occ_types.proofs.Unknowns.{unknown_any, unknown_array, unknown_channel, unknown_counted, unknown_defined, unknown_named, unknown_primitive, unknown_record, unknown_sequence, unknown_timer, unknown_unknown, unknown_value, unknown_variant}
use Rattle.occ_types.proofs.unknown.+unknown.Goals as goal

pub any_field_holds_unknown-returns-then-holds_unknown : goal.any_field_holds_unknown-returns-then-holds_unknown
any_field_holds_unknown-returns-then-holds_unknown t c = grind (arith, common_steps)

pub any_field_holds_unknown-loop-field-preserved : goal.any_field_holds_unknown-loop-field-preserved
any_field_holds_unknown-loop-field-preserved t c = grind (arith, common_steps)

pub any_field_holds_unknown-returns : goal.any_field_holds_unknown-returns
any_field_holds_unknown-returns t c = grind (arith, common_steps)

pub any_item_holds_unknown-returns-then-item_holds_unknown : goal.any_item_holds_unknown-returns-then-item_holds_unknown
any_item_holds_unknown-returns-then-item_holds_unknown t c = grind (arith, common_steps)

pub any_item_holds_unknown-loop-item-preserved : goal.any_item_holds_unknown-loop-item-preserved
any_item_holds_unknown-loop-item-preserved t c = grind (arith, common_steps)

pub any_item_holds_unknown-returns : goal.any_item_holds_unknown-returns
any_item_holds_unknown-returns t c = grind (arith, common_steps)

pub any_tag_holds_unknown-returns-then-any_item_holds_unknown : goal.any_tag_holds_unknown-returns-then-any_item_holds_unknown
any_tag_holds_unknown-returns-then-any_item_holds_unknown t c = grind (arith, common_steps)

pub any_tag_holds_unknown-loop-tag-preserved : goal.any_tag_holds_unknown-loop-tag-preserved
any_tag_holds_unknown-loop-tag-preserved t c = grind (arith, common_steps)

pub any_tag_holds_unknown-returns : goal.any_tag_holds_unknown-returns
any_tag_holds_unknown-returns t c = grind (arith, common_steps)

pub holds_unknown-returns-in-Unknown : goal.holds_unknown-returns-in-Unknown
holds_unknown-returns-in-Unknown t c = grind (arith, unknown_unknown)

pub holds_unknown-returns-in-Array : goal.holds_unknown-returns-in-Array
holds_unknown-returns-in-Array t c = grind (arith, unknown_array)

pub holds_unknown-returns-in-Record : goal.holds_unknown-returns-in-Record
holds_unknown-returns-in-Record t c = grind (arith, unknown_record)

pub holds_unknown-returns-in-Named : goal.holds_unknown-returns-in-Named
holds_unknown-returns-in-Named t c = grind (arith, unknown_named)

pub holds_unknown-returns-in-Channel : goal.holds_unknown-returns-in-Channel
holds_unknown-returns-in-Channel t c = grind (arith, unknown_channel)

pub holds_unknown-returns-in-Primitive : goal.holds_unknown-returns-in-Primitive
holds_unknown-returns-in-Primitive t c = grind (arith, unknown_primitive)

pub holds_unknown-returns-in-Primitive-2 : goal.holds_unknown-returns-in-Primitive-2
holds_unknown-returns-in-Primitive-2 t c = grind (arith, unknown_timer)

pub item_holds_unknown-returns-in-Value : goal.item_holds_unknown-returns-in-Value
item_holds_unknown-returns-in-Value t c = grind (arith, unknown_value)

pub item_holds_unknown-returns-in-Counted : goal.item_holds_unknown-returns-in-Counted
item_holds_unknown-returns-in-Counted t c = grind (arith, unknown_counted)

pub protocol_holds_unknown-returns-in-Any : goal.protocol_holds_unknown-returns-in-Any
protocol_holds_unknown-returns-in-Any t c = grind (arith, unknown_any)

pub protocol_holds_unknown-returns-in-Sequence : goal.protocol_holds_unknown-returns-in-Sequence
protocol_holds_unknown-returns-in-Sequence t c = grind (arith, unknown_sequence)

pub protocol_holds_unknown-returns-in-Variant : goal.protocol_holds_unknown-returns-in-Variant
protocol_holds_unknown-returns-in-Variant t c = grind (arith, unknown_variant)

pub protocol_holds_unknown-returns-in-Defined : goal.protocol_holds_unknown-returns-in-Defined
protocol_holds_unknown-returns-in-Defined t c = grind (arith, unknown_defined)
