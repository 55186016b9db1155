use Rattle.std.proofs.Common.{◌≡◌, ◌++◌, drop}
use Rattle.occ_base.specs.Lists.{joined}
use Rattle.occ_typing_specifications.specs.Tags.{detail_items}
use Rattle.occ_typing_specifications.proofs.detail.detail_items.Given as goal

abbrev pub invariant-loop-detail : goal.invariant-loop-detail
invariant-loop-detail l =
    (joined l.items (detail_items l.scope (drop l.detail-index l.details)).items ≡ joined l.initial.items (detail_items l.scope l.details).items)
    × (l.faults ++ (detail_items l.scope (drop l.detail-index l.details)).faults ≡ l.initial.faults ++ (detail_items l.scope l.details).faults)
