use Rattle.std.proofs.Common.{◌≡◌, take}
use Rattle.std.specs.List.{flat_map}
use Rattle.occ_files_check.specs.Told.{row_diags}
use Rattle.occ_files_check.proofs.telling.told_diags.Given as goal

abbrev pub invariant-loop-row : goal.invariant-loop-row
invariant-loop-row l = l.diags ≡ flat_map (row_diags l.units) (take l.row-index l.rows)
