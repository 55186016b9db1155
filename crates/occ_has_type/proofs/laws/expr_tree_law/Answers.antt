use Rattle.occ_has_type.proofs.Forms.{expr_tree_is}
use Rattle.occ_has_type.proofs.Noting.{table_noted, tree_noted}
use Rattle.occ_has_type.proofs.laws.expr_tree_law.Goals as goal

pub returns-clause-form : goal.returns-clause-form
returns-clause-form c = expr_tree_is

pub returns-clause-notes : goal.returns-clause-notes
returns-clause-notes c = tree_noted

pub returns-clause-table : goal.returns-clause-table
returns-clause-table c = table_noted
