use Rattle.std.proofs.Common.{arith}
use Rattle.std.proofs.lemmas.Grind.{common_steps}
use Rattle.occ_types.proofs.Measures.{held_above, held_beside, held_end, held_held, held_step, measure_any, measure_array, measure_channel, measure_counted, measure_defined, measure_named, measure_primitive, measure_record, measure_sequence, measure_timer, measure_unknown, measure_value, measure_variant}
use Rattle.occ_types.proofs.measure.+measure.Goals as goal

pub measure_fields-loop-field-preserved : goal.measure_fields-loop-field-preserved
measure_fields-loop-field-preserved t c = grind (arith, common_steps, held_step, held_held)

pub measure_fields-returns : goal.measure_fields-returns
measure_fields-returns t c = grind (arith, common_steps, held_end)

pub measure_item-returns-in-Value : goal.measure_item-returns-in-Value
measure_item-returns-in-Value t c = grind (arith, measure_value)

pub measure_item-returns-in-Counted : goal.measure_item-returns-in-Counted
measure_item-returns-in-Counted t c = grind (arith, measure_counted, held_above, held_beside)

pub measure_items-loop-item-preserved : goal.measure_items-loop-item-preserved
measure_items-loop-item-preserved t c = grind (arith, common_steps, held_step, held_held)

pub measure_items-returns : goal.measure_items-returns
measure_items-returns t c = grind (arith, common_steps, held_end)

pub measure_of-returns-in-Unknown : goal.measure_of-returns-in-Unknown
measure_of-returns-in-Unknown t c = grind (arith, measure_unknown)

pub measure_of-returns-in-Array : goal.measure_of-returns-in-Array
measure_of-returns-in-Array t c = grind (arith, measure_array, held_above)

pub measure_of-returns-in-Record : goal.measure_of-returns-in-Record
measure_of-returns-in-Record t c = grind (arith, measure_record, held_above)

pub measure_of-returns-in_default : goal.measure_of-returns-in_default
measure_of-returns-in_default t c = grind (arith, measure_named, held_above)

pub measure_of-returns-in-Channel : goal.measure_of-returns-in-Channel
measure_of-returns-in-Channel t c = grind (arith, measure_channel, held_above)

pub measure_of-returns-in-Primitive : goal.measure_of-returns-in-Primitive
measure_of-returns-in-Primitive t c = grind (arith, measure_primitive, measure_timer)

pub measure_protocol-returns-in-Any : goal.measure_protocol-returns-in-Any
measure_protocol-returns-in-Any t c = grind (arith, measure_any)

pub measure_protocol-returns-in-Sequence : goal.measure_protocol-returns-in-Sequence
measure_protocol-returns-in-Sequence t c = grind (arith, measure_sequence)

pub measure_protocol-returns-in-Variant : goal.measure_protocol-returns-in-Variant
measure_protocol-returns-in-Variant t c = grind (arith, measure_variant)

pub measure_protocol-returns-in-Defined : goal.measure_protocol-returns-in-Defined
measure_protocol-returns-in-Defined t c = grind (arith, measure_defined, held_above)

pub measure_tags-loop-tag-preserved : goal.measure_tags-loop-tag-preserved
measure_tags-loop-tag-preserved t c = grind (arith, common_steps, held_step, held_held)

pub measure_tags-returns : goal.measure_tags-returns
measure_tags-returns t c = grind (arith, common_steps, held_end)
