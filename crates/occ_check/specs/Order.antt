-- Diagnostics in order, each once.
use Rattle.std.specs.Prelude.{List, []}
use Rattle.occ_base.specs.Order.{diag_order, placed}
use Rattle.occ_base.specs.declared.diag.Diag.{Diag}

abbrev pub in_order : List Diag → List Diag
in_order ds = placed diag_order ds []
