-- The greatest number of dimensions that a type in a line has that specifies names.
use Rattle.std.specs.Prelude.{max, ℕ, map, Option, Some, None}
use Rattle.occ_forms_expressions.specs.Depth.{counted_dimensions, data_form_dimensions, element_dimensions, expr_dimensions, greatest, type_form_dimensions}
use Rattle.occ_forms_expressions.specs.declared.tree.TypeForm.{TypeForm}
use Rattle.occ_forms.specs.declared.specification_tree.FormalGroup.{FormalGroup}
use Rattle.occ_forms.specs.declared.specification_tree.FormalGroup.TheVariants as fo
use Rattle.occ_forms.specs.declared.specification_tree.FunctionHead.{FunctionHead}
use Rattle.occ_forms.specs.declared.specification_tree.Head.{Head}
use Rattle.occ_forms.specs.declared.specification_tree.Head.TheVariants as he
use Rattle.occ_forms.specs.declared.specification_tree.ItemForm.{ItemForm}
use Rattle.occ_forms.specs.declared.specification_tree.ItemForm.TheVariants as it
use Rattle.occ_forms.specs.declared.specification_tree.Specification.{Specification}
use Rattle.occ_forms.specs.declared.specification_tree.Specification.TheVariants as sp
use Rattle.occ_forms.specs.declared.specification_tree.Specified.{Specified}
use Rattle.occ_forms.specs.declared.specification_tree.Specified.TheVariants as sd
use Rattle.occ_forms.specs.declared.specification_tree.ValueGroup.{ValueGroup}

abbrev pub item_dimensions : ItemForm → ℕ
item_dimensions (it.Plain form) = data_form_dimensions form
item_dimensions (it.Counted count form) = max (data_form_dimensions count) (counted_dimensions form)

abbrev pub value_group_dimensions : ValueGroup → ℕ
value_group_dimensions group = data_form_dimensions group.form

abbrev pub formal_group_dimensions : FormalGroup → ℕ
formal_group_dimensions (fo.Value group) = value_group_dimensions group
formal_group_dimensions (fo.Plain form n more) = type_form_dimensions form

abbrev pub perhaps_type_dimensions : Option TypeForm → ℕ
perhaps_type_dimensions None = 0
perhaps_type_dimensions (Some form) = type_form_dimensions form

abbrev pub function_head_dimensions : FunctionHead → ℕ
function_head_dimensions head =
    max (type_form_dimensions head.first) (max (greatest (map type_form_dimensions head.more)) (greatest (map value_group_dimensions head.formals)))

abbrev pub specification_dimensions : Specification → ℕ
specification_dimensions (sp.Declaration form n more) = type_form_dimensions form
specification_dimensions (sp.Abbreviation form n el) = max (perhaps_type_dimensions form) (element_dimensions el)
specification_dimensions (sp.Value form n e) = max (perhaps_type_dimensions form) (expr_dimensions e)
specification_dimensions (sp.Retyped recast form n el) = max (type_form_dimensions form) (element_dimensions el)
specification_dimensions (sp.RetypedValue recast form n e) = max (type_form_dimensions form) (expr_dimensions e)
specification_dimensions (sp.Protocol n item more) = max (item_dimensions item) (greatest (map item_dimensions more))
specification_dimensions (sp.DataType n form) = type_form_dimensions form
specification_dimensions (sp.Function head e more) = max (function_head_dimensions head) (max (expr_dimensions e) (greatest (map expr_dimensions more)))

abbrev pub head_dimensions : Head → ℕ
head_dimensions (he.Procedure inlined n groups) = greatest (map formal_group_dimensions groups)
head_dimensions (he.Function head) = function_head_dimensions head
head_dimensions (he.Protocol n) = 0
head_dimensions (he.DataType n) = 0

abbrev pub specified_dimensions : Specified → ℕ
specified_dimensions (sd.Line line) = specification_dimensions line
specified_dimensions (sd.Head head) = head_dimensions head
