use Rattle.std.proofs.Common.{arith}
use Rattle.std.proofs.lemmas.Grind.{common_steps}
use Rattle.occ_types.proofs.Agreeing.{alike_of_array, alike_of_channel, alike_of_named, alike_of_primitive, alike_of_record, alike_of_timer, alike_of_unknown, as_array_at_array, as_primitive_at_primitive, as_record_at_record, no_array, no_primitive, no_record}
use Rattle.occ_types.proofs.fit.+alike.Goals as goal

pub alike-returns-in-Named : goal.alike-returns-in-Named
alike-returns-in-Named t c = grind (arith, alike_of_named)

pub alike-returns-in-Primitive-unnamed : goal.alike-returns-in-Primitive-unnamed
alike-returns-in-Primitive-unnamed t c = grind (arith, alike_of_primitive, as_primitive_at_primitive)

pub alike-returns-in_default : goal.alike-returns-in_default
alike-returns-in_default t c = grind (arith, alike_of_primitive, no_primitive)

pub alike-returns-then-count_fits : goal.alike-returns-then-count_fits
alike-returns-then-count_fits t c = grind (arith, alike_of_array, as_array_at_array)

pub alike-returns-else-count_fits : goal.alike-returns-else-count_fits
alike-returns-else-count_fits t c = grind (arith, alike_of_array, as_array_at_array)

pub alike-returns-in_default-unnamed : goal.alike-returns-in_default-unnamed
alike-returns-in_default-unnamed t c = grind (arith, alike_of_array, no_array)

pub alike-returns-then-eq : goal.alike-returns-then-eq
alike-returns-then-eq t c = grind (arith, alike_of_record, as_record_at_record)

pub alike-returns-else-eq : goal.alike-returns-else-eq
alike-returns-else-eq t c = grind (arith, alike_of_record, as_record_at_record)

pub alike-returns-in_default-unnamed-2 : goal.alike-returns-in_default-unnamed-2
alike-returns-in_default-unnamed-2 t c = grind (arith, alike_of_record, no_record)

pub alike-returns-in-Unknown : goal.alike-returns-in-Unknown
alike-returns-in-Unknown t c = grind (arith, alike_of_unknown)

pub alike-returns-in-Channel : goal.alike-returns-in-Channel
alike-returns-in-Channel t c = grind (arith, alike_of_channel)

pub alike-returns-in-Channel-2 : goal.alike-returns-in-Channel-2
alike-returns-in-Channel-2 t c = grind (arith, alike_of_timer)

pub fields_alike-returns-in_default : goal.fields_alike-returns-in_default
fields_alike-returns-in_default t c = grind (arith, common_steps)

pub fields_alike-returns-then-not-field_alike : goal.fields_alike-returns-then-not-field_alike
fields_alike-returns-then-not-field_alike t c = grind (arith, common_steps)

pub fields_alike-loop-field-preserved : goal.fields_alike-loop-field-preserved
fields_alike-loop-field-preserved t c = grind (arith, common_steps)

pub fields_alike-returns : goal.fields_alike-returns
fields_alike-returns t c = grind (arith, common_steps)
