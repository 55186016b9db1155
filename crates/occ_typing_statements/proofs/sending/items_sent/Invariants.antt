use Rattle.std.proofs.Common.{◌≡◌, ◌++◌, drop}
use Rattle.occ_base.specs.Lists.{joined}
use Rattle.occ_typing_statements.specs.Sending.{givens, items_sent, sent_faults, sent_trees}
use Rattle.occ_typing_statements.proofs.sending.items_sent.Given as goal

abbrev pub invariant-loop-want : goal.invariant-loop-want
invariant-loop-want l =
    (l.givens ++ givens (items_sent (drop l.want-index l.wanted) l.items) ≡ givens (items_sent l.wanted l.initial.items))
    × (joined l.trees (sent_trees (items_sent (drop l.want-index l.wanted) l.items)) ≡ sent_trees (items_sent l.wanted l.initial.items))
    × (l.faults ++ sent_faults (items_sent (drop l.want-index l.wanted) l.items) ≡ l.initial.faults ++ sent_faults (items_sent l.wanted l.initial.items))
