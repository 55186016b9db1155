use Rattle.std.proofs.Common.{◌≡◌, ◌++◌, drop}
use Rattle.occ_typing_statements.specs.Sending.{items_faults, items_read}
use Rattle.occ_typing_statements.proofs.sending.items_read.Given as goal

abbrev pub invariant-loop-item : goal.invariant-loop-item
invariant-loop-item l =
    (l.read ++ items_read l.scope (drop l.item-index l.items) ≡ l.initial.read ++ items_read l.scope l.items)
    × (l.faults ++ items_faults l.scope (drop l.item-index l.items) ≡ l.initial.faults ++ items_faults l.scope l.items)
