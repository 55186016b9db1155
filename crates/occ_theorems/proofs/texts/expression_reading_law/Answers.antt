use Rattle.occ_forms_expressions.proofs.TypeEnds.{one_counting}
use Rattle.occ_theorems.proofs.Readings.{one_builtin}
use Rattle.occ_forms_expressions.proofs.UniqueExprs.{one_data_form, one_dimension_of, one_element, one_expr, one_operand, one_type}
use Rattle.occ_theorems.proofs.texts.expression_reading_law.Goals as goal

pub returns-clause-expressions : goal.returns-clause-expressions
returns-clause-expressions c = one_expr

pub returns-clause-counts : goal.returns-clause-counts
returns-clause-counts c = one_counting

pub returns-clause-operands : goal.returns-clause-operands
returns-clause-operands c = one_operand

pub returns-clause-elements : goal.returns-clause-elements
returns-clause-elements c = one_element

pub returns-clause-types : goal.returns-clause-types
returns-clause-types c = one_type

pub returns-clause-builtins : goal.returns-clause-builtins
returns-clause-builtins c = one_builtin

pub returns-clause-data_types : goal.returns-clause-data_types
returns-clause-data_types c = one_data_form

pub returns-clause-dimensions : goal.returns-clause-dimensions
returns-clause-dimensions c = one_dimension_of
