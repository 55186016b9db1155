use Rattle.std.proofs.Common.{◌≡◌, drop}
use Rattle.occ_types.specs.Unknown.{any_of}
use Rattle.occ_typing_rules.specs.Dimensions.{fields_hold_plain_record}
use Rattle.occ_typing_rules.proofs.dimensions.+plain.Given as goal

abbrev pub invariant-any_field_holds_plain_record-loop-field : goal.invariant-any_field_holds_plain_record-loop-field
invariant-any_field_holds_plain_record-loop-field l = any_of (fields_hold_plain_record (drop l.field-index l.fields)) ≡ any_of (fields_hold_plain_record l.fields)
