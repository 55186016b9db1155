use Rattle.std.proofs.Common.{◌≡◌, drop}
use Rattle.occ_types.specs.Measure.{held, beside, all_of, field_measures, item_measures, tag_measures}
use Rattle.occ_types.proofs.measure.+measure.Given as goal

abbrev pub invariant-measure_fields-loop-field : goal.invariant-measure_fields-loop-field
invariant-measure_fields-loop-field l = (held (beside l.found (all_of (field_measures (drop l.field-index l.fields)))) ≡ held (all_of (field_measures l.fields))) × (held l.found ≡ l.found)

abbrev pub invariant-measure_items-loop-item : goal.invariant-measure_items-loop-item
invariant-measure_items-loop-item l = (held (beside l.found (all_of (item_measures (drop l.item-index l.items)))) ≡ held (all_of (item_measures l.items))) × (held l.found ≡ l.found)

abbrev pub invariant-measure_tags-loop-tag : goal.invariant-measure_tags-loop-tag
invariant-measure_tags-loop-tag l = (held (beside l.found (all_of (tag_measures (drop l.tag-index l.tags)))) ≡ held (all_of (tag_measures l.tags))) × (held l.found ≡ l.found)
