use Rattle.occ_theorems.proofs.Rounds.{round_of_unit}
use Rattle.occ_theorems.proofs.types.type_scope_law.Goals as goal

pub returns : goal.returns
returns c = round_of_unit
