use Rattle.std.proofs.Common.{Some, negsuc, pos, refl}
use Rattle.occ_types.specs.declared.value.Primitive.TheVariants as p
use Rattle.occ_types.specs.declared.value.Value.TheVariants as v
use Rattle.occ_typing_operands.specs.Outcomes.{decimal, hexadecimal}
use Rattle.occ_typing_operands.proofs.Plain.{wanted_literal}
use Rattle.occ_typing_operands.proofs.rows.wanted_rows.Goals as goal

pub returns-clause-byte : goal.returns-clause-byte
returns-clause-byte c = wanted_literal p.Byte p.Byte (decimal (pos 255)) (Some (v.Byte 255)) refl

pub returns-clause-no_byte : goal.returns-clause-no_byte
returns-clause-no_byte c = wanted_literal p.Byte p.Int (decimal (pos 256)) (Some (v.Int (pos 256))) refl

pub returns-clause-bits : goal.returns-clause-bits
returns-clause-bits c = wanted_literal p.Int16 p.Int16 (hexadecimal 65535) (Some (v.Int16 (negsuc 0))) refl
