use Rattle.std.proofs.Common.{◌≡◌, drop}
use Rattle.occ_types.specs.Unknown.{any_of, fields_unknown, items_unknown, tags_unknown}
use Rattle.occ_types.proofs.unknown.+unknown.Given as goal

abbrev pub invariant-any_field_holds_unknown-loop-field : goal.invariant-any_field_holds_unknown-loop-field
invariant-any_field_holds_unknown-loop-field l = any_of (fields_unknown (drop l.field-index l.fields)) ≡ any_of (fields_unknown l.fields)

abbrev pub invariant-any_item_holds_unknown-loop-item : goal.invariant-any_item_holds_unknown-loop-item
invariant-any_item_holds_unknown-loop-item l = any_of (items_unknown (drop l.item-index l.items)) ≡ any_of (items_unknown l.items)

abbrev pub invariant-any_tag_holds_unknown-loop-tag : goal.invariant-any_tag_holds_unknown-loop-tag
invariant-any_tag_holds_unknown-loop-tag l = any_of (tags_unknown (drop l.tag-index l.tags)) ≡ any_of (tags_unknown l.tags)
