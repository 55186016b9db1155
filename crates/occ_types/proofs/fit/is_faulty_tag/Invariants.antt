use Rattle.std.proofs.Common.{◌≡◌, drop}
use Rattle.std.specs.List.{list_any}
use Rattle.occ_types.specs.View.{is_unknown_item}
use Rattle.occ_types.proofs.fit.is_faulty_tag.Given as goal

abbrev pub invariant-loop-item : goal.invariant-loop-item
invariant-loop-item l = list_any is_unknown_item (drop l.item-index l.item-items) ≡ list_any is_unknown_item l.tag.items
