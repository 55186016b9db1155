use Rattle.occ_theorems.proofs.Nearest.{nearest_is, nearest_is_none}
use Rattle.occ_theorems.proofs.types.nearest_law.Goals as goal

pub returns-clause-some : goal.returns-clause-some
returns-clause-some c = nearest_is

pub returns-clause-none : goal.returns-clause-none
returns-clause-none c = nearest_is_none
