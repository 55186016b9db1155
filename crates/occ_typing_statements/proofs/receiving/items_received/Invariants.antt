use Rattle.std.proofs.Common.{◌≡◌, ◌++◌, drop}
use Rattle.occ_base.specs.Lists.{joined}
use Rattle.occ_typing_statements.specs.Receiving.{items_received, givens, received_faults, received_trees}
use Rattle.occ_typing_statements.proofs.receiving.items_received.Given as goal

abbrev pub invariant-loop-item : goal.invariant-loop-item
invariant-loop-item l =
    (l.all.givens ++ givens (items_received l.scope (drop l.item-index l.items)) ≡ l.initial.all.givens ++ givens (items_received l.scope l.items))
    × (joined l.all.trees (received_trees (items_received l.scope (drop l.item-index l.items))) ≡ joined l.initial.all.trees (received_trees (items_received l.scope l.items)))
    × (l.faults ++ received_faults (items_received l.scope (drop l.item-index l.items)) ≡ l.initial.faults ++ received_faults (items_received l.scope l.items))
