use Rattle.std.proofs.Common.{◌≡◌, drop}
use Rattle.occ_typing_operands.specs.Parts.{field_named as spec_field_named}
use Rattle.occ_typing_operands.proofs.part.field_named.Given as goal

abbrev pub invariant-loop-field : goal.invariant-loop-field
invariant-loop-field l = spec_field_named l.name (drop l.field-index l.fields) ≡ spec_field_named l.name l.fields
