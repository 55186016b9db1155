use Rattle.occ_theorems.proofs.whole.Walk.{known_unit, whole_unit}
use Rattle.occ_theorems.proofs.types.typed_tree_law.Goals as goal

pub returns : goal.returns
returns c = record { tree = whole_unit; names = known_unit }
