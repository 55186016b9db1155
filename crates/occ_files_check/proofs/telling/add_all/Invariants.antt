use Rattle.std.proofs.Common.{◌≡◌, ◌++◌, take}
use Rattle.occ_files_check.proofs.telling.add_all.Given as goal

abbrev pub invariant-loop-diag : goal.invariant-loop-diag
invariant-loop-diag l = l.diags ≡ l.fn.diags ++ take l.diag-index l.found
