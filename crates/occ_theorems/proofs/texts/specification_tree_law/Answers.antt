use Rattle.occ_forms.proofs.OneTree.{one_tree}
use Rattle.occ_theorems.proofs.texts.specification_tree_law.Goals as goal

pub returns : goal.returns
returns c = one_tree
