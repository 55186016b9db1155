use Rattle.std.proofs.Common.{◌≡◌, ◌++◌, drop}
use Rattle.occ_base.specs.Lists.{joined}
use Rattle.occ_typing_statements.specs.Receiving.{details_received, givens, received_faults, received_trees}
use Rattle.occ_typing_statements.proofs.receiving.details_received.Given as goal

abbrev pub invariant-loop-detail : goal.invariant-loop-detail
invariant-loop-detail l =
    (l.all.givens ++ givens (details_received l.scope (drop l.detail-index l.details)) ≡ l.initial.all.givens ++ givens (details_received l.scope l.details))
    × (joined l.all.trees (received_trees (details_received l.scope (drop l.detail-index l.details))) ≡ joined l.initial.all.trees (received_trees (details_received l.scope l.details)))
    × (l.faults ++ received_faults (details_received l.scope (drop l.detail-index l.details)) ≡ l.initial.faults ++ received_faults (details_received l.scope l.details))
