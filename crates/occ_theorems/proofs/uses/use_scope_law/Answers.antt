use Rattle.occ_theorems.proofs.Anew.{scope_law}
use Rattle.occ_theorems.proofs.uses.use_scope_law.Goals as goal

pub returns : goal.returns
returns c = scope_law
