-- What the form of a line says of where it may stand.
use Rattle.std.specs.Prelude.{Bool, true, false, not, ◌||◌, List, [], ◌∷◌, map, Some, None, if◌then◌else◌}
use Rattle.std.specs.List.{list_any}
use Rattle.occ_forms_expressions.specs.declared.tree.Bounds.{Bounds}
use Rattle.occ_forms_expressions.specs.declared.tree.Bounds.TheOpen.{Element-F, Expr-F, Operand-F}
use Rattle.occ_forms_expressions.specs.declared.tree.Builtin.{Builtin}
use Rattle.occ_forms_expressions.specs.declared.tree.Dimension.{Dimension}
use Rattle.occ_forms_expressions.specs.declared.tree.Element.{Element, out-Element}
use Rattle.occ_forms_expressions.specs.declared.tree.Expr.{Expr, out-Expr}
use Rattle.occ_forms_expressions.specs.declared.tree.NamedOperand.{NamedOperand}
use Rattle.occ_forms_expressions.specs.declared.tree.Operand.{Operand, out-Operand}
use Rattle.occ_forms_expressions.specs.declared.tree.TypeForm.{TypeForm}
use Rattle.occ_forms.specs.declared.tree.Action.{Action}
use Rattle.occ_forms.specs.declared.tree.Action.TheVariants as action
use Rattle.occ_forms.specs.declared.tree.Construct.{Construct}
use Rattle.occ_forms.specs.declared.tree.Construct.TheVariants as construct
use Rattle.occ_forms.specs.declared.tree.Detail.{Detail}
use Rattle.occ_forms.specs.declared.tree.Detail.TheVariants as detail
use Rattle.occ_forms.specs.declared.tree.Form.{Form}
use Rattle.occ_forms.specs.declared.tree.Form.TheVariants as form
use Rattle.occ_forms.specs.declared.tree.Guarded.{Guarded}
use Rattle.occ_forms.specs.declared.tree.Guarded.TheVariants as guarded
use Rattle.occ_forms.specs.declared.tree.ConstructKind.{ConstructKind}
use Rattle.occ_forms.specs.declared.tree.ConstructKind.TheVariants as kind
use Rattle.occ_forms.specs.declared.tree.PartForm.{PartForm}
use Rattle.occ_forms.specs.declared.tree.PartForm.TheVariants as part
use Rattle.occ_project.specs.declared.expanded.ExpandedBody.{ExpandedBody}
use Rattle.occ_project.specs.declared.expanded.ExpandedBody.TheVariants as body
use Rattle.occ_project.specs.declared.expanded.ExpandedLine.{ExpandedLine}
use Rattle.occ_forms.specs.declared.specification_tree.Head.{Head}
use Rattle.occ_forms.specs.declared.specification_tree.Head.TheVariants as head
use Rattle.occ_forms.specs.declared.specification_tree.Specification.{Specification}
use Rattle.occ_forms.specs.declared.specification_tree.Specification.TheVariants as specification
use Rattle.occ_forms.specs.declared.specification_tree.Specified.{Specified}
use Rattle.occ_forms.specs.declared.specification_tree.Specified.TheVariants as specified
use Rattle.occ_tree.specs.declared.outline.Outline.{Outline}
use Rattle.occ_tree.specs.declared.sort.Sort.{Sort}
use Rattle.occ_tree.specs.declared.sort.Sort.TheVariants as sort

-- the element is a name alone
abbrev pub is_name_step : Element-F Bounds Builtin Dimension Element Expr NamedOperand Operand TypeForm → Bool
is_name_step (Element-F.Element::Named name []) = true
is_name_step (Element-F.Element::Named name (e ∷ es)) = false
is_name_step (Element-F.Segment el bounds es) = false

unfoldable pub is_name : Element → Bool
is_name el = is_name_step (out-Element el)

abbrev pub operand_sort_step : Operand-F Bounds Builtin Dimension Element Expr NamedOperand Operand TypeForm → Sort
operand_sort_step (Operand-F.Operand::Element el) = if is_name el then sort.Name else sort.Expression
operand_sort_step (Operand-F.Operand::Literal l) = sort.Expression
operand_sort_step (Operand-F.Operand::Decorated l type) = sort.Expression
operand_sort_step (Operand-F.Operand::Truth b) = sort.Expression
operand_sort_step (Operand-F.Parens e) = sort.Expression
operand_sort_step (Operand-F.Operand::Table e es) = sort.Expression
operand_sort_step (Operand-F.Operand::DecoratedTable e es type) = sort.Expression
operand_sort_step (Operand-F.Operand::Call n es) = sort.Call

unfoldable pub operand_sort : Operand → Sort
operand_sort o = operand_sort_step (out-Operand o)

abbrev pub expression_sort_step : Expr-F Bounds Builtin Dimension Element Expr NamedOperand Operand TypeForm → Sort
expression_sort_step (Expr-F.Alone o) = operand_sort o
expression_sort_step (Expr-F.Run operator a b os) = sort.Expression
expression_sort_step (Expr-F.Pair a operator b) = sort.Expression
expression_sort_step (Expr-F.Applied operator o) = sort.Expression
expression_sort_step (Expr-F.Converted ds b o) = sort.Expression
expression_sort_step (Expr-F.ArrayConverted d ds n o) = sort.Expression
expression_sort_step (Expr-F.Expr::Named n o) = sort.Expression
expression_sort_step (Expr-F.Most x type) = sort.Expression

unfoldable pub expression_sort : Expr → Sort
expression_sort e = expression_sort_step (out-Expr e)

abbrev pub expressions_sort : Expr → List Expr → Sort
expressions_sort e [] = expression_sort e
expressions_sort e (f ∷ es) = sort.Expressions

-- a part that can only be a type
abbrev pub is_type_part : Detail → Bool
is_type_part (detail.Element el) = false
is_type_part (detail.Counted count el) = false
is_type_part (detail.Array d ds name) = true
is_type_part (detail.Builtin ds b) = true
is_type_part (detail.CountedType count type) = true

-- a part that can only be an element
abbrev pub is_element_part : Detail → Bool
is_element_part (detail.Element el) = not (is_name el)
is_element_part (detail.Counted count el) = true
is_element_part (detail.Array d ds name) = false
is_element_part (detail.Builtin ds b) = false
is_element_part (detail.CountedType count type) = false

-- some part can only be a type, or some only an element
abbrev pub parts_sort : Bool → Bool → Sort
parts_sort false false = sort.Tagged
parts_sort true false = sort.Tag
parts_sort false true = sort.Variant
parts_sort true true = sort.Nowhere

abbrev pub tagged_sort : Detail → List Detail → Sort
tagged_sort d ds = parts_sort (is_type_part d || list_any is_type_part ds) (is_element_part d || list_any is_element_part ds)

abbrev pub specification_sort : Specification → Sort
specification_sort (specification.Declaration type name names) = sort.Declaration
specification_sort (specification.Abbreviation type name el) = sort.LocalSpecification
specification_sort (specification.Value type name e) = sort.GlobalSpecification
specification_sort (specification.Retyped recast type name el) = sort.LocalSpecification
specification_sort (specification.RetypedValue recast type name e) = sort.GlobalSpecification
specification_sort (specification.Protocol name item more) = sort.GlobalSpecification
specification_sort (specification.DataType name type) = sort.GlobalSpecification
specification_sort (specification.Function function e es) = sort.GlobalSpecification

abbrev pub head_sort : Head → Sort
head_sort (head.Procedure inlined name formals) = sort.ProcedureHead
head_sort (head.Function function) = sort.FunctionHead
head_sort (head.Protocol name) = sort.ProtocolHead
head_sort (head.DataType name) = sort.DataTypeHead

abbrev pub specified_sort : Specified → Sort
specified_sort (specified.Line s) = specification_sort s
specified_sort (specified.Head h) = head_sort h

abbrev pub action_sort : Action → Sort
action_sort (action.Input i) = sort.Input
action_sort _ = sort.Action

abbrev pub plain_sort : ConstructKind → Sort
plain_sort kind.Sequence = sort.Block
plain_sort kind.Parallel = sort.Block
plain_sort kind.PriParallel = sort.Block
plain_sort kind.Conditional = sort.Conditional
plain_sort kind.Alternation = sort.Alternation
plain_sort kind.PriAlternation = sort.Alternation

abbrev pub replicated_sort : ConstructKind → Sort
replicated_sort kind.Sequence = sort.ReplicatedBlock
replicated_sort kind.Parallel = sort.ReplicatedBlock
replicated_sort kind.PriParallel = sort.ReplicatedBlock
replicated_sort kind.Conditional = sort.ReplicatedConditional
replicated_sort kind.Alternation = sort.ReplicatedAlternation
replicated_sort kind.PriAlternation = sort.ReplicatedAlternation

abbrev pub construct_sort : Construct → Sort
construct_sort (construct.Replicable k None) = plain_sort k
construct_sort (construct.Replicable k (Some replicator)) = replicated_sort k
construct_sort (construct.While e) = sort.While
construct_sort (construct.Case e) = sort.Selection
construct_sort (construct.CaseInput el) = sort.CaseInput

abbrev pub guarded_sort : Guarded → Sort
guarded_sort guarded.Skip = sort.Guard
guarded_sort (guarded.Input i) = sort.Guard
guarded_sort (guarded.CaseInput el) = sort.GuardedCaseInput

abbrev pub part_sort : PartForm → Sort
part_sort part.Case = sort.Case
part_sort part.Else = sort.Else
part_sort part.ValueOf = sort.ValueOf
part_sort (part.Result e es) = sort.Result
part_sort part.Record = sort.Record
part_sort part.PackedRecord = sort.Record
part_sort (part.Guard e g) = guarded_sort g

abbrev pub form_sort : Form → Sort
form_sort (form.Specified s) = specified_sort s
form_sort form.Close = sort.Close
form_sort (form.Action a) = action_sort a
form_sort (form.Construct c) = construct_sort c
form_sort (form.Part p) = part_sort p
form_sort (form.Expressions e es) = expressions_sort e es
form_sort (form.Tagged name d ds) = tagged_sort d ds

-- a #USE is a specification, and a line with a fault stands nowhere
abbrev pub body_sort : ExpandedBody → Sort
body_sort (body.Form f) = form_sort f
body_sort (body.Uses unit) = sort.GlobalSpecification
body_sort (body.Fault code) = sort.Nowhere

abbrev pub outline : ExpandedLine → Outline
outline l = record { depth = l.depth; sort = body_sort l.body }

abbrev pub outlines : List ExpandedLine → List Outline
outlines = map outline
