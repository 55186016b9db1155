use Rattle.std.proofs.Common.{◌≡◌, map, take}
use Rattle.occ_files_check.specs.Told.{heads}
use Rattle.occ_messages.specs.Located.{head_of}
use Rattle.occ_files_check.proofs.telling.messages.Given as goal

abbrev pub invariant-loop-diag : goal.invariant-loop-diag
invariant-loop-diag l = map head_of l.messages.items ≡ heads l.texts (take l.diag-index l.diags)
