use Rattle.std.proofs.Common.{arith}
use Rattle.std.proofs.lemmas.Grind.{common_steps}
use Rattle.occ_types.proofs.Agreeing.{as_array_at_array, as_channel_at_channel, as_counted_at_counted, as_defined_at_defined, as_named_at_named, as_primitive_at_primitive, as_record_at_record, as_sequence_at_sequence, as_value_at_value, as_variant_at_variant, fits_of_array, fits_of_channel, fits_of_named, fits_of_primitive, fits_of_record, fits_of_timer, fits_of_unknown, is_any_at_any, is_timer_at_timer, is_unknown_at_unknown, item_fits_of_counted, item_fits_of_value, no_any, no_array, no_channel, no_counted, no_defined, no_named, no_primitive, no_record, no_sequence, no_timer, no_unknown, no_value, no_variant, protocol_fits_of_any, protocol_fits_of_defined, protocol_fits_of_sequence, protocol_fits_of_variant}
use Rattle.occ_types.proofs.fit.+fits.Goals as goal

pub fields_fit-returns-in_default : goal.fields_fit-returns-in_default
fields_fit-returns-in_default t c = grind (arith, common_steps)

pub fields_fit-returns-then-not-field_fits : goal.fields_fit-returns-then-not-field_fits
fields_fit-returns-then-not-field_fits t c = grind (arith, common_steps)

pub fields_fit-loop-field-preserved : goal.fields_fit-loop-field-preserved
fields_fit-loop-field-preserved t c = grind (arith, common_steps)

pub fields_fit-returns : goal.fields_fit-returns
fields_fit-returns t c = grind (arith, common_steps)

pub fits-returns-in-Primitive-b : goal.fits-returns-in-Primitive-b
fits-returns-in-Primitive-b t c = grind (arith, fits_of_primitive, as_primitive_at_primitive)

pub fits-returns-in_default : goal.fits-returns-in_default
fits-returns-in_default t c = grind (arith, fits_of_primitive, no_primitive)

pub fits-returns-then-count_fits : goal.fits-returns-then-count_fits
fits-returns-then-count_fits t c = grind (arith, fits_of_array, as_array_at_array)

pub fits-returns-else-count_fits : goal.fits-returns-else-count_fits
fits-returns-else-count_fits t c = grind (arith, fits_of_array, as_array_at_array)

pub fits-returns-in_default-b : goal.fits-returns-in_default-b
fits-returns-in_default-b t c = grind (arith, fits_of_array, no_array)

pub fits-returns-then-eq : goal.fits-returns-then-eq
fits-returns-then-eq t c = grind (arith, fits_of_record, as_record_at_record)

pub fits-returns-else-eq : goal.fits-returns-else-eq
fits-returns-else-eq t c = grind (arith, fits_of_record, as_record_at_record)

pub fits-returns-in_default-b-2 : goal.fits-returns-in_default-b-2
fits-returns-in_default-b-2 t c = grind (arith, fits_of_record, no_record)

pub fits-returns-then-eq-2 : goal.fits-returns-then-eq-2
fits-returns-then-eq-2 t c = grind (arith, fits_of_named, as_named_at_named)

pub fits-returns-else-eq-2 : goal.fits-returns-else-eq-2
fits-returns-else-eq-2 t c = grind (arith, fits_of_named, as_named_at_named)

pub fits-returns-in_default-b-3 : goal.fits-returns-in_default-b-3
fits-returns-in_default-b-3 t c = grind (arith, fits_of_named, no_named)

pub fits-returns-in-Channel-b : goal.fits-returns-in-Channel-b
fits-returns-in-Channel-b t c = grind (arith, fits_of_channel, as_channel_at_channel)

pub fits-returns-in_default-b-4 : goal.fits-returns-in_default-b-4
fits-returns-in_default-b-4 t c = grind (arith, fits_of_channel, no_channel)

pub fits-returns-in-Timer-matches : goal.fits-returns-in-Timer-matches
fits-returns-in-Timer-matches t c = grind (arith, fits_of_timer, is_timer_at_timer)

pub fits-returns-in_default-matches : goal.fits-returns-in_default-matches
fits-returns-in_default-matches t c = grind (arith, fits_of_timer, no_timer)

pub fits-returns-in-Unknown-matches : goal.fits-returns-in-Unknown-matches
fits-returns-in-Unknown-matches t c = grind (arith, fits_of_unknown, is_unknown_at_unknown)

pub fits-returns-in_default-matches-2 : goal.fits-returns-in_default-matches-2
fits-returns-in_default-matches-2 t c = grind (arith, fits_of_unknown, no_unknown)

pub item_fits-returns-in-Value-b : goal.item_fits-returns-in-Value-b
item_fits-returns-in-Value-b t c = grind (arith, item_fits_of_value, as_value_at_value)

pub item_fits-returns-in_default : goal.item_fits-returns-in_default
item_fits-returns-in_default t c = grind (arith, item_fits_of_value, no_value)

pub item_fits-returns-then-eq : goal.item_fits-returns-then-eq
item_fits-returns-then-eq t c = grind (arith, item_fits_of_counted, as_counted_at_counted)

pub item_fits-returns-else-eq : goal.item_fits-returns-else-eq
item_fits-returns-else-eq t c = grind (arith, item_fits_of_counted, as_counted_at_counted)

pub item_fits-returns-in_default-b : goal.item_fits-returns-in_default-b
item_fits-returns-in_default-b t c = grind (arith, item_fits_of_counted, no_counted)

pub items_fit-returns-in_default : goal.items_fit-returns-in_default
items_fit-returns-in_default t c = grind (arith, common_steps)

pub items_fit-returns-then-not-item_fits : goal.items_fit-returns-then-not-item_fits
items_fit-returns-then-not-item_fits t c = grind (arith, common_steps)

pub items_fit-loop-item-preserved : goal.items_fit-loop-item-preserved
items_fit-loop-item-preserved t c = grind (arith, common_steps)

pub items_fit-returns : goal.items_fit-returns
items_fit-returns t c = grind (arith, common_steps)

pub protocol_fits-returns-in-Any-matches : goal.protocol_fits-returns-in-Any-matches
protocol_fits-returns-in-Any-matches t c = grind (arith, protocol_fits_of_any, is_any_at_any)

pub protocol_fits-returns-in_default : goal.protocol_fits-returns-in_default
protocol_fits-returns-in_default t c = grind (arith, protocol_fits_of_any, no_any)

pub protocol_fits-returns-in-Sequence-b : goal.protocol_fits-returns-in-Sequence-b
protocol_fits-returns-in-Sequence-b t c = grind (arith, protocol_fits_of_sequence, as_sequence_at_sequence)

pub protocol_fits-returns-in_default-b : goal.protocol_fits-returns-in_default-b
protocol_fits-returns-in_default-b t c = grind (arith, protocol_fits_of_sequence, no_sequence)

pub protocol_fits-returns-in-Variant-b : goal.protocol_fits-returns-in-Variant-b
protocol_fits-returns-in-Variant-b t c = grind (arith, protocol_fits_of_variant, as_variant_at_variant)

pub protocol_fits-returns-in_default-b-2 : goal.protocol_fits-returns-in_default-b-2
protocol_fits-returns-in_default-b-2 t c = grind (arith, protocol_fits_of_variant, no_variant)

pub protocol_fits-returns-then-eq : goal.protocol_fits-returns-then-eq
protocol_fits-returns-then-eq t c = grind (arith, protocol_fits_of_defined, as_defined_at_defined)

pub protocol_fits-returns-else-eq : goal.protocol_fits-returns-else-eq
protocol_fits-returns-else-eq t c = grind (arith, protocol_fits_of_defined, as_defined_at_defined)

pub protocol_fits-returns-in_default-b-3 : goal.protocol_fits-returns-in_default-b-3
protocol_fits-returns-in_default-b-3 t c = grind (arith, protocol_fits_of_defined, no_defined)

pub tags_fit-returns-in_default : goal.tags_fit-returns-in_default
tags_fit-returns-in_default t c = grind (arith, common_steps)

pub tags_fit-returns-then-not-tag_fits : goal.tags_fit-returns-then-not-tag_fits
tags_fit-returns-then-not-tag_fits t c = grind (arith, common_steps)

pub tags_fit-loop-tag-preserved : goal.tags_fit-loop-tag-preserved
tags_fit-loop-tag-preserved t c = grind (arith, common_steps)

pub tags_fit-returns : goal.tags_fit-returns
tags_fit-returns t c = grind (arith, common_steps)
