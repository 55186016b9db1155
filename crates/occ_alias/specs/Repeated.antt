-- Diagnostics, of which one may come several times in a row.
use Rattle.std.specs.Prelude.{List, [], ◌∷◌, ◌++◌, replicate}
use Rattle.occ_base.specs.declared.diag.Diag.{Diag}
use Rattle.occ_alias.specs.declared.reported.Run.{Run}

abbrev pub run_diags : Run → List Diag
run_diags r = r.diag ∷ replicate r.more r.diag

abbrev pub all_diags : List Run → List Diag
all_diags [] = []
all_diags (r ∷ rs) = run_diags r ++ all_diags rs
