use Rattle.std.proofs.Common.{◌≡◌, drop}
use Rattle.occ_server.specs.Receipts.{ascends, ascends_after}
use Rattle.occ_server.proofs.comparing.ascends.Given as goal

abbrev pub invariant-loop-receipt : goal.invariant-loop-receipt
invariant-loop-receipt l = ascends_after l.last (drop l.receipt-index l.receipts) ≡ ascends l.receipts
