use Rattle.occ_forms_expressions.specs.Spelling.{dimension_then, element_then, expr_then}
use Rattle.occ_theorems.proofs.Marks.{builtin_mark, data_form_mark, dimension_mark, many_mark}
use Rattle.occ_forms_expressions.proofs.Marks.{element_mark, expr_mark, type_form_mark}
use Rattle.occ_theorems.proofs.texts.mark_law.Goals as goal

pub returns-clause-expressions : goal.returns-clause-expressions
returns-clause-expressions c = expr_mark

pub returns-clause-elements : goal.returns-clause-elements
returns-clause-elements c = element_mark

pub returns-clause-types : goal.returns-clause-types
returns-clause-types c = type_form_mark

pub returns-clause-builtins : goal.returns-clause-builtins
returns-clause-builtins c = builtin_mark

pub returns-clause-dimensions : goal.returns-clause-dimensions
returns-clause-dimensions c = dimension_mark

pub returns-clause-data_forms : goal.returns-clause-data_forms
returns-clause-data_forms c = data_form_mark

pub returns-clause-many_expressions : goal.returns-clause-many_expressions
returns-clause-many_expressions c = many_mark expr_then expr_mark

pub returns-clause-many_elements : goal.returns-clause-many_elements
returns-clause-many_elements c = many_mark element_then element_mark

pub returns-clause-many_dimensions : goal.returns-clause-many_dimensions
returns-clause-many_dimensions c = many_mark dimension_then dimension_mark
