use Rattle.std.proofs.Common.{◌≡◌, take}
use Rattle.std.specs.List.{flat_map}
use Rattle.occ_files_check.specs.Told.{shown_diags}
use Rattle.occ_editor.proofs.placing.told_in.Given as goal

abbrev pub invariant-loop-row : goal.invariant-loop-row
invariant-loop-row l = l.diags ≡ flat_map (λ row. shown_diags row.shown) (take l.row-index l.rows)
