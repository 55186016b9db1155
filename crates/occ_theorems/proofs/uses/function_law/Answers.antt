use Rattle.occ_theorems.proofs.Functions.{function_law}
use Rattle.occ_theorems.proofs.uses.function_law.Goals as goal

pub returns : goal.returns
returns c = function_law
