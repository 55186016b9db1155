use Rattle.occ_theorems.proofs.Calls.{call_exactly}
use Rattle.occ_theorems.proofs.uses.call_law.Goals as goal

pub returns : goal.returns
returns c = call_exactly
