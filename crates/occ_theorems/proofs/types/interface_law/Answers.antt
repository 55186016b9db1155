use Rattle.occ_theorems.proofs.Interfaces.{interface_known}
use Rattle.occ_theorems.proofs.types.interface_law.Goals as goal

pub returns : goal.returns
returns c = interface_known
