-- `el ! o; ..`
use Rattle.std.specs.Prelude.{ℕ, Option, Some, None, List, [], ◌∷◌, ◌++◌, if◌then◌else◌}
use Rattle.occ_base.specs.declared.fault.Fault.{Fault}
use Rattle.occ_expr.specs.Trees.{element_tree}
use Rattle.occ_types.specs.View.{as_array}
use Rattle.occ_types.specs.declared.types.OccType.{OccType}
use Rattle.occ_types.specs.declared.types.OccType.TheVariants as t
use Rattle.occ_typing_operands.specs.Settling.{Finding, settled}
use Rattle.occ_typing_operands.specs.declared.kind.Kind.TheVariants as k
use Rattle.occ_scope.specs.declared.scope.Scope.{Scope}
use Rattle.occ_typing_tables.specs.Terms.{Judged, judged}
use Rattle.occ_typing_tables.specs.declared.term.Term.{Term, out-Term}
use Rattle.occ_typing_tables.specs.declared.term.Term.TheOpen.{Term-F}
use Rattle.occ_typing_tables.specs.declared.term.Term.TheVariants as v
use Rattle.occ_typing_rules.specs.declared.open_expr.OpenExpr.{OpenExpr}
use Rattle.occ_typing_rules.specs.declared.expr.TypedElement.{TypedElement}
use Rattle.occ_typing_rules.specs.declared.expr.TypedExpr.{TypedExpr}
use Rattle.occ_protocol.specs.Carrying.{Carrier}
use Rattle.occ_protocol.specs.Lines.{exchanged, tag_place, takes_tag}
use Rattle.occ_protocol.specs.Matching.{asked}
use Rattle.occ_protocol.specs.Wanting.{wants}
use Rattle.occ_protocol.specs.declared.given.Given.{Given}
use Rattle.occ_protocol.specs.declared.given.Given.TheVariants as g
use Rattle.occ_protocol.specs.declared.given.Shape.{Shape}
use Rattle.occ_protocol.specs.declared.given.Shape.TheVariants as shape
use Rattle.occ_protocol.specs.declared.given.Want.{Want}
use Rattle.occ_protocol.specs.declared.given.Want.TheVariants as w
use Rattle.occ_protocol.specs.declared.given.Wanted.{Wanted}
use Rattle.occ_protocol.specs.declared.given.Wanted.TheVariants as wanted
use Rattle.occ_forms_expressions.specs.declared.tree.Element.{Element}
use Rattle.occ_forms_expressions.specs.declared.tree.Expr.{Expr}
use Rattle.occ_forms.specs.declared.tree.OutputItem.{OutputItem}
use Rattle.occ_forms.specs.declared.tree.OutputItem.TheVariants as out
use Rattle.occ_expr_operations.specs.Views.{expr_view}
use Rattle.occ_expr_operations.specs.declared.reading.Reading.{Reading}
use Rattle.occ_base.specs.Lists.{joined, one_part}
use Rattle.occ_typing_rules.specs.Placing.{tree_of}
use Rattle.occ_typing_statements.specs.Through.{carrier_of, root_of, through}
use Rattle.occ_typing_statements.specs.declared.sending.SentItem.{SentItem}
use Rattle.occ_typing_statements.specs.declared.sending.SentItem.TheVariants as sent
use Rattle.occ_typing_statements.specs.declared.sending.TypedSending.{TypedSending}
use Rattle.occ_typing_statements.specs.declared.exchange_tree.TypedOutput.{TypedOutput}
use Rattle.occ_typing_statements.specs.declared.exchange_tree.TypedOutput.TheVariants as output

-- ---- the tag of an output, and its items

abbrev pub name_sent : OutputItem → Option (List ℕ)
name_sent (out.Plain e) = (expr_view e).name
name_sent (out.Counted n e) = None

-- a name alone that is sent first, where it is not looked up
abbrev pub tag_of : Carrier → OutputItem → Option (List ℕ)
tag_of c first = if takes_tag c then name_sent first else None

abbrev pub items_after : Option (List ℕ) → OutputItem → List OutputItem → List OutputItem
items_after None first more = first ∷ more
items_after (Some tag) first more = more

-- ---- items by themselves

abbrev pub reading : Scope → Expr → Reading
reading s e = record { term = ((expr_view e).said s).term; open_expr = (expr_view e).open_expr s }

abbrev pub own : Scope → Expr → List Fault
own s e = ((expr_view e).said s).faults

abbrev pub item_read : Scope → OutputItem → SentItem
item_read s (out.Plain e) = sent.Plain (reading s e)
item_read s (out.Counted n e) = sent.Counted (reading s n) (reading s e)

abbrev pub item_faults : Scope → OutputItem → List Fault
item_faults s (out.Plain e) = own s e
item_faults s (out.Counted n e) = own s n ++ own s e

abbrev pub items_read : Scope → List OutputItem → List SentItem
items_read s [] = []
items_read s (x ∷ xs) = item_read s x ∷ items_read s xs

abbrev pub items_faults : Scope → List OutputItem → List Fault
items_faults s [] = []
items_faults s (x ∷ xs) = item_faults s x ++ items_faults s xs

abbrev pub shape_of : SentItem → Shape
shape_of (sent.Plain x) = shape.Plain
shape_of (sent.Counted n x) = shape.Counted

abbrev pub shapes_of : List SentItem → List Shape
shapes_of [] = []
shapes_of (x ∷ xs) = shape_of x ∷ shapes_of xs

-- ---- operands, where something is wanted of them

-- a table takes the components of an array that is wanted, as many as it has
abbrev pub table_as : Judged → Option (Option ℕ × OccType) → Finding
table_as x None = x.alone
table_as x (Some parts) = x.under (t.Array None parts.1)

abbrev pub as_layer : OccType → Term-F Term → Finding
as_layer of (Term-F.Single k) = settled of k
as_layer of (Term-F.Table xs) = table_as (judged (v.Table xs)) (as_array of)

-- an operand of which this type is wanted, which may be of another all the same
unfoldable pub operand_as : OccType → Term → Finding
operand_as of x = as_layer of (out-Term x)

abbrev pub operand_under : Want → Term → Finding
operand_under w.Hidden x = record { faults = (judged x).hidden.faults; kind = k.Faulty }
operand_under w.Nothing x = (judged x).alone
operand_under (w.Of of) x = operand_as of x

-- of a plain item, and of the array of a counted one
abbrev pub value_want : Wanted → Want
value_want (wanted.Plain want) = want
value_want (wanted.Counted count want) = want

abbrev pub count_want : Wanted → Want
count_want (wanted.Plain want) = want
count_want (wanted.Counted count want) = count

-- an item that is sent: its faults, what is then known of it, and its tree
pub record Sent : Type 0 where
  pub faults : List Fault
  pub given : Given
  pub tree : Option TypedOutput

abbrev pub value_output : Option TypedExpr → Option TypedOutput
value_output None = None
value_output (Some x) = Some (output.Value x)

abbrev pub counted_output : Option TypedExpr → Option TypedExpr → Option TypedOutput
counted_output None x = None
counted_output (Some n) None = None
counted_output (Some n) (Some x) = Some (output.Counted n x)

abbrev pub plain_sent : Finding → OpenExpr → Sent
plain_sent y d = record { faults = y.faults; given = g.Plain y.kind; tree = value_output (tree_of y.kind d) }

abbrev pub counted_sent : Finding → OpenExpr → Finding → OpenExpr → Sent
counted_sent m c y d =
    record { faults = m.faults ++ y.faults; given = g.Counted m.kind y.kind; tree = counted_output (tree_of m.kind c) (tree_of y.kind d) }

abbrev pub item_sent : Wanted → SentItem → Sent
item_sent want (sent.Plain x) = plain_sent (operand_under (value_want want) x.term) x.open_expr
item_sent want (sent.Counted n x) = counted_sent (operand_under (count_want want) n.term) n.open_expr (operand_under (value_want want) x.term) x.open_expr

-- each with what is wanted of it
abbrev pub items_sent : List Wanted → List SentItem → List Sent
items_sent [] xs = []
items_sent (want ∷ wants) [] = []
items_sent (want ∷ wants) (x ∷ xs) = item_sent want x ∷ items_sent wants xs

abbrev pub sent_faults : List Sent → List Fault
sent_faults [] = []
sent_faults (x ∷ xs) = x.faults ++ sent_faults xs

abbrev pub givens : List Sent → List Given
givens [] = []
givens (x ∷ xs) = x.given ∷ givens xs

abbrev pub sent_trees : List Sent → Option (List TypedOutput)
sent_trees [] = Some []
sent_trees (x ∷ xs) = joined (one_part x.tree) (sent_trees xs)

-- ---- the line

abbrev pub tag_at : List ℕ → Option ℕ → Option (List TypedOutput)
tag_at name None = None
tag_at name (Some place) = Some (output.Tag place name ∷ [])

abbrev pub tag_tree : Carrier → Option (List ℕ) → Option (List TypedOutput)
tag_tree c None = Some []
tag_tree c (Some name) = tag_at name (tag_place c name)

abbrev pub sending_of : Option TypedElement → Option (List TypedOutput) → Option TypedSending
sending_of None outputs = None
sending_of (Some channel) None = None
sending_of (Some channel) (Some outputs) = Some (record { channel = channel; outputs = outputs })

-- the items after a tag, or after none, each with what is wanted of it
abbrev pub sent_through : Carrier → Option (List ℕ) → List SentItem → List Sent
sent_through c tag xs = items_sent (wants (asked c tag) (shapes_of xs)) xs

abbrev pub after_tag : Scope → Carrier → List ℕ → Option (List ℕ) → List OutputItem → List Fault
after_tag s c root tag items =
    let xs = sent_through c tag (items_read s items) in
    items_faults s items ++ (sent_faults xs ++ exchanged c root tag (givens xs))

unfoldable pub output_faults : Scope → Element → OutputItem → List OutputItem → List Fault
output_faults s el first more =
    let c = carrier_of s el in
    let tag = tag_of c first in
    (through s el).faults ++ after_tag s c (root_of s el) tag (items_after tag first more)

abbrev pub outputs_after : Scope → Carrier → Option (List ℕ) → List OutputItem → Option (List TypedOutput)
outputs_after s c tag items = joined (tag_tree c tag) (sent_trees (sent_through c tag (items_read s items)))

unfoldable pub output_tree : Scope → Element → OutputItem → List OutputItem → Option TypedSending
output_tree s el first more =
    let c = carrier_of s el in
    let tag = tag_of c first in
    sending_of (element_tree s el) (outputs_after s c tag (items_after tag first more))
