use Rattle.std.proofs.Common.{arith}
use Rattle.std.proofs.lemmas.Grind.{common_steps}
use Rattle.occ_types.proofs.same.+same.Goals as goal

pub same_fields-returns-then-a-b : goal.same_fields-returns-then-a-b
same_fields-returns-then-a-b t c = grind (arith, common_steps)

pub same_fields-returns-then-not-same_field : goal.same_fields-returns-then-not-same_field
same_fields-returns-then-not-same_field t c = grind (arith, common_steps)

pub same_fields-loop-i-preserved : goal.same_fields-loop-i-preserved
same_fields-loop-i-preserved t c = grind (arith, common_steps)

pub same_fields-returns : goal.same_fields-returns
same_fields-returns t c = grind (arith, common_steps)

pub same_item-returns-else-eq : goal.same_item-returns-else-eq
same_item-returns-else-eq t c = grind (arith, common_steps)

pub same_item-returns-in_default : goal.same_item-returns-in_default
same_item-returns-in_default t c = grind (arith, common_steps)

pub same_item-returns-in_default-2 : goal.same_item-returns-in_default-2
same_item-returns-in_default-2 t c = grind (arith, common_steps)

pub same_items-returns-then-a-b : goal.same_items-returns-then-a-b
same_items-returns-then-a-b t c = grind (arith, common_steps)

pub same_items-returns-then-not-same_item : goal.same_items-returns-then-not-same_item
same_items-returns-then-not-same_item t c = grind (arith, common_steps)

pub same_items-loop-i-preserved : goal.same_items-loop-i-preserved
same_items-loop-i-preserved t c = grind (arith, common_steps)

pub same_items-returns : goal.same_items-returns
same_items-returns t c = grind (arith, common_steps)

pub same_protocol-returns-in-Any-Any : goal.same_protocol-returns-in-Any-Any
same_protocol-returns-in-Any-Any t c = grind (arith, common_steps)

pub same_protocol-returns-in_default : goal.same_protocol-returns-in_default
same_protocol-returns-in_default t c = grind (arith, common_steps)

pub same_protocol-returns-in_default-2 : goal.same_protocol-returns-in_default-2
same_protocol-returns-in_default-2 t c = grind (arith, common_steps)

pub same_protocol-returns-in_default-3 : goal.same_protocol-returns-in_default-3
same_protocol-returns-in_default-3 t c = grind (arith, common_steps)

pub same_protocol-returns-in_default-4 : goal.same_protocol-returns-in_default-4
same_protocol-returns-in_default-4 t c = grind (arith, common_steps)

pub same_tags-returns-then-a-b : goal.same_tags-returns-then-a-b
same_tags-returns-then-a-b t c = grind (arith, common_steps)

pub same_tags-returns-then-not-same_tag : goal.same_tags-returns-then-not-same_tag
same_tags-returns-then-not-same_tag t c = grind (arith, common_steps)

pub same_tags-loop-i-preserved : goal.same_tags-loop-i-preserved
same_tags-loop-i-preserved t c = grind (arith, common_steps)

pub same_tags-returns : goal.same_tags-returns
same_tags-returns t c = grind (arith, common_steps)

pub same_type-returns-in-Primitive-Primitive : goal.same_type-returns-in-Primitive-Primitive
same_type-returns-in-Primitive-Primitive t c = grind (arith, common_steps)

pub same_type-returns-else-eq : goal.same_type-returns-else-eq
same_type-returns-else-eq t c = grind (arith, common_steps)

pub same_type-returns-else-eq-2 : goal.same_type-returns-else-eq-2
same_type-returns-else-eq-2 t c = grind (arith, common_steps)

pub same_type-returns-in-Timer-Timer : goal.same_type-returns-in-Timer-Timer
same_type-returns-in-Timer-Timer t c = grind (arith, common_steps)

pub same_type-returns-in-Timer-Timer-2 : goal.same_type-returns-in-Timer-Timer-2
same_type-returns-in-Timer-Timer-2 t c = grind (arith, common_steps)

pub same_type-returns-in_default : goal.same_type-returns-in_default
same_type-returns-in_default t c = grind (arith, common_steps)

pub same_type-returns-in_default-2 : goal.same_type-returns-in_default-2
same_type-returns-in_default-2 t c = grind (arith, common_steps)

pub same_type-returns-in_default-3 : goal.same_type-returns-in_default-3
same_type-returns-in_default-3 t c = grind (arith, common_steps)

pub same_type-returns-in_default-4 : goal.same_type-returns-in_default-4
same_type-returns-in_default-4 t c = grind (arith, common_steps)

pub same_type-returns-in_default-5 : goal.same_type-returns-in_default-5
same_type-returns-in_default-5 t c = grind (arith, common_steps)

pub same_type-returns-in_default-6 : goal.same_type-returns-in_default-6
same_type-returns-in_default-6 t c = grind (arith, common_steps)

pub same_type-returns-in_default-7 : goal.same_type-returns-in_default-7
same_type-returns-in_default-7 t c = grind (arith, common_steps)
