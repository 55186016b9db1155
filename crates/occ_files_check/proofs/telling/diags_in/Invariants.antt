use Rattle.std.proofs.Common.{◌≡◌, take}
use Rattle.occ_files_check.specs.Told.{diags_in}
use Rattle.occ_files_check.proofs.telling.diags_in.Given as goal

abbrev pub invariant-loop-diag : goal.invariant-loop-diag
invariant-loop-diag l = l.found ≡ diags_in l.file (take l.diag-index l.diags)
