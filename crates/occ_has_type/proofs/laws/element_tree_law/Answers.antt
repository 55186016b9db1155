use Rattle.occ_has_type.proofs.Forms.{element_tree_is}
use Rattle.occ_has_type.proofs.laws.element_tree_law.Goals as goal

pub returns : goal.returns
returns c = element_tree_is
