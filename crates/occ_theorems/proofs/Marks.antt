-- No tree spells a token that stands in none.
use Rattle.std.proofs.Common.{◌∙◌, refl, List, [], ◌∷◌}
use Rattle.occ_forms_expressions.specs.declared.tree.Builtin.{Builtin}
use Rattle.occ_forms_expressions.specs.declared.tree.DataForm.{DataForm}
use Rattle.occ_forms_expressions.specs.declared.tree.Dimension.{Dimension}
use Rattle.occ_forms_expressions.specs.Spelling.{Spelling, builtin_then, data_form_then, dimension_then, many}
use Rattle.occ_forms_expressions.proofs.Inner.{inner_builtin, inner_data_form, inner_dimension}
use Rattle.occ_forms_expressions.proofs.Marks.{PassesMarks}

pub builtin_mark : (b : Builtin) → PassesMarks (builtin_then b)
builtin_mark b k = (inner_builtin b).passes k

pub dimension_mark : (d : Dimension) → PassesMarks (dimension_then d)
dimension_mark d k = (inner_dimension d).passes k

pub data_form_mark : (form : DataForm) → PassesMarks (data_form_then form)
data_form_mark form k = (inner_data_form form).passes k

-- many of those that spell none spell none
pub many_mark : {X : Type 0} (spells : X → Spelling) → ((x : X) → PassesMarks (spells x)) → (xs : List X) → PassesMarks (many spells xs)
many_mark spells one [] k = refl
many_mark spells one (x ∷ xs) k = one x (many spells xs k) ∙ many_mark spells one xs k
