use Rattle.occ_theorems.proofs.shape.Grown.{one_nodes}
use Rattle.occ_theorems.proofs.shape.Lawful.{one_law, shape_law}
use Rattle.occ_theorems.proofs.texts.shape_law.Goals as goal

pub returns : goal.returns
returns c = record { exact = shape_law; nodes = one_nodes; one = one_law }
