use Rattle.std.proofs.Common.{◌≡◌, drop}
use Rattle.occ_types.specs.Fits.{fields_fit as fields_agree, items_fit as items_agree, tags_fit as tags_agree}
use Rattle.occ_types.proofs.fit.+fits.Given as goal

abbrev pub invariant-fields_fit-loop-field : goal.invariant-fields_fit-loop-field
invariant-fields_fit-loop-field l = fields_agree (drop l.field-index l.a) l.others ≡ fields_agree l.a l.b

abbrev pub invariant-items_fit-loop-item : goal.invariant-items_fit-loop-item
invariant-items_fit-loop-item l = items_agree (drop l.item-index l.a) l.others ≡ items_agree l.a l.b

abbrev pub invariant-tags_fit-loop-tag : goal.invariant-tags_fit-loop-tag
invariant-tags_fit-loop-tag l = tags_agree (drop l.tag-index l.a) l.others ≡ tags_agree l.a l.b
