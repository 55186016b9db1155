use Rattle.std.proofs.Common.{◌≡◌, take}
use Rattle.occ_server.specs.Receipts.{receipts_of}
use Rattle.occ_server.proofs.comparing.first_off.Given as goal

abbrev pub invariant-loop-index : goal.invariant-loop-index
invariant-loop-index l = take l.index l.receipts ≡ take l.index (receipts_of l.base l.entries)
