use Rattle.std.proofs.Common.{refl, []}
use Rattle.occ_forms_expressions.proofs.UniqueExprs.{one_data_form, one_element, one_expr, one_type}
use Rattle.occ_theorems.proofs.texts.expression_tree_law.Goals as goal

pub returns-clause-expressions : goal.returns-clause-expressions
returns-clause-expressions c a b e = (one_expr a b [] [] refl refl e).0

pub returns-clause-elements : goal.returns-clause-elements
returns-clause-elements c a b e = (one_element a b [] [] refl refl e).0

pub returns-clause-types : goal.returns-clause-types
returns-clause-types c a b e = (one_type a b [] [] refl refl e).0

pub returns-clause-data_types : goal.returns-clause-data_types
returns-clause-data_types c a b e = (one_data_form a b [] [] e).0
