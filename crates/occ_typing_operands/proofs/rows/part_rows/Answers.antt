use Rattle.std.proofs.Common.{Some, pos, refl}
use Rattle.occ_types.specs.declared.value.Value.TheVariants as v
use Rattle.occ_typing_operands.specs.Outcomes.{decimal}
use Rattle.occ_typing_operands.specs.Settling.{int}
use Rattle.occ_typing_operands.proofs.Plain.{component_of}
use Rattle.occ_typing_operands.proofs.rows.part_rows.Goals as goal

pub returns-clause-inside : goal.returns-clause-inside
returns-clause-inside c = component_of (Some 4) int (decimal (pos 3)) (Some (v.Int (pos 3))) refl

pub returns-clause-following : goal.returns-clause-following
returns-clause-following c = component_of (Some 4) int (decimal (pos 4)) (Some (v.Int (pos 4))) refl
