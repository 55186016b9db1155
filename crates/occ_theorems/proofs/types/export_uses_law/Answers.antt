use Rattle.occ_theorems.proofs.Ordered.{in_order_has}
use Rattle.occ_theorems.proofs.types.export_uses_law.Goals as goal

pub returns-clause-among : goal.returns-clause-among
returns-clause-among c = in_order_has
