use Rattle.std.proofs.Common.{arith}
use Rattle.std.proofs.lemmas.Grind.{common_steps}
use Rattle.occ_types.proofs.size.+extent.Goals as goal

pub extent-returns-in-Primitive-clause-most : goal.extent-returns-in-Primitive-clause-most
extent-returns-in-Primitive-clause-most t c = grind (arith, common_steps)

pub extent-returns-in-Array-clause-most : goal.extent-returns-in-Array-clause-most
extent-returns-in-Array-clause-most t c = grind (arith, common_steps)

pub extent-returns-in-Record-clause-most : goal.extent-returns-in-Record-clause-most
extent-returns-in-Record-clause-most t c = grind (arith, common_steps)

pub extent-returns-in-Channel-clause-most : goal.extent-returns-in-Channel-clause-most
extent-returns-in-Channel-clause-most t c = grind (arith, common_steps)

pub extent-returns-in-Channel-2-clause-most : goal.extent-returns-in-Channel-2-clause-most
extent-returns-in-Channel-2-clause-most t c = grind (arith, common_steps)

pub extent-returns-in-Channel-3-clause-most : goal.extent-returns-in-Channel-3-clause-most
extent-returns-in-Channel-3-clause-most t c = grind (arith, common_steps)

pub fields_extent-returns-in_err-bytes-clause-value : goal.fields_extent-returns-in_err-bytes-clause-value
fields_extent-returns-in_err-bytes-clause-value t c = grind (arith, common_steps)

pub fields_extent-returns-in_err-bytes-clause-most : goal.fields_extent-returns-in_err-bytes-clause-most
fields_extent-returns-in_err-bytes-clause-most t c = grind (arith, common_steps)

pub fields_extent-loop-field-preserved : goal.fields_extent-loop-field-preserved
fields_extent-loop-field-preserved t c = grind (arith, common_steps)

pub fields_extent-returns-clause-value : goal.fields_extent-returns-clause-value
fields_extent-returns-clause-value t c = grind (arith, common_steps)

pub fields_extent-returns-clause-most : goal.fields_extent-returns-clause-most
fields_extent-returns-clause-most t c = grind (arith, common_steps)
