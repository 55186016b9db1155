use Rattle.std.proofs.Common.{◌≡◌, take}
use Rattle.occ_server.proofs.copying.all_copied.Given as goal

abbrev pub invariant-loop-entry : goal.invariant-loop-entry
invariant-loop-entry l = l.copies ≡ take l.entry-index l.entries
