-- Inputs: from a channel, from a timer, after AFTER, and after CASE and a tag; the first line of a case input.
use Rattle.std.specs.Prelude.{ℕ, Bool, Option, Some, None, List, [], ◌∷◌, ◌++◌, if◌then◌else◌}
use Rattle.occ_base.specs.declared.fault.Fault.{Fault}
use Rattle.occ_typing_operands.specs.Settling.{int}
use Rattle.occ_scope.specs.declared.scope.Scope.{Scope}
use Rattle.occ_typing_tables.specs.Terms.{judged}
use Rattle.occ_typing_rules.specs.declared.expr.TypedElement.{TypedElement}
use Rattle.occ_typing_rules.specs.declared.expr.TypedExpr.{TypedExpr}
use Rattle.occ_protocol.specs.Lines.{awaited, cased, exchanged, is_timer, received, tag_place}
use Rattle.occ_forms_expressions.specs.declared.tree.Element.{Element}
use Rattle.occ_forms_expressions.specs.declared.tree.Expr.{Expr}
use Rattle.occ_expr_operations.specs.Parts.{Said}
use Rattle.occ_expr.specs.Trees.{element_tree, int_tree}
use Rattle.occ_expr_operations.specs.Views.{expr_view}
use Rattle.occ_forms.specs.declared.tree.Input.{Input}
use Rattle.occ_forms.specs.declared.tree.Input.TheVariants as input
use Rattle.occ_forms.specs.declared.tree.InputItem.{InputItem}
use Rattle.occ_typing_statements.specs.Receiving.{givens, items_received, received_faults, received_trees}
use Rattle.occ_typing_statements.specs.Through.{carrier_of, root_of, through}
use Rattle.occ_typing_statements.specs.declared.exchange_tree.TypedInput.{TypedInput}
use Rattle.occ_typing_statements.specs.declared.exchange_tree.TypedInput.TheVariants as typed
use Rattle.occ_typing_statements.specs.declared.exchange_tree.TypedTarget.{TypedTarget}
use Rattle.occ_typing_statements.specs.declared.exchange_tree.TypedTarget.TheVariants as target

-- ---- without CASE

unfoldable pub plain_faults : Scope → Element → List InputItem → List Fault
plain_faults s el items =
    let xs = items_received s items in
    (through s el).faults ++ (received_faults xs ++ received (carrier_of s el) (root_of s el) (givens xs))

abbrev pub time_of : TypedElement → List TypedTarget → Option TypedInput
time_of el [] = None
time_of el (target.Single x ∷ []) = Some (typed.Time el x)
time_of el (target.Single x ∷ y ∷ ys) = None
time_of el (target.Counted n x ∷ ys) = None

abbrev pub plain_of : Bool → TypedElement → List TypedTarget → Option TypedInput
plain_of of_timer el xs = if of_timer then time_of el xs else Some (typed.Plain el xs)

abbrev pub plain_input : Bool → Option TypedElement → Option (List TypedTarget) → Option TypedInput
plain_input of_timer None xs = None
plain_input of_timer (Some el) None = None
plain_input of_timer (Some el) (Some xs) = plain_of of_timer el xs

unfoldable pub plain_tree : Scope → Element → List InputItem → Option TypedInput
plain_tree s el items = plain_input (is_timer (carrier_of s el)) (element_tree s el) (received_trees (items_received s items))

-- ---- `el ? AFTER e`: an INT is wanted

abbrev pub as_time : Said → List Fault
as_time x = x.faults ++ ((judged x.term).under int).faults

unfoldable pub time_faults : Scope → Expr → List Fault
time_faults s e = as_time ((expr_view e).said s)

unfoldable pub after_faults : Scope → Element → Expr → List Fault
after_faults s el e = (through s el).faults ++ (time_faults s e ++ awaited (carrier_of s el) (root_of s el))

abbrev pub after_input : Option TypedElement → Option TypedExpr → Option TypedInput
after_input None e = None
after_input (Some el) None = None
after_input (Some el) (Some e) = Some (typed.After el e)

unfoldable pub after_tree : Scope → Element → Expr → Option TypedInput
after_tree s el e = after_input (element_tree s el) (int_tree s e)

-- ---- `el ? CASE n; i; ..`

unfoldable pub tagged_faults : Scope → Element → List ℕ → List InputItem → List Fault
tagged_faults s el tag items =
    let xs = items_received s items in
    (through s el).faults ++ (received_faults xs ++ exchanged (carrier_of s el) (root_of s el) (Some tag) (givens xs))

abbrev pub tagged_at : TypedElement → Option ℕ → List ℕ → List TypedTarget → Option TypedInput
tagged_at el None tag xs = None
tagged_at el (Some place) tag xs = Some (typed.Tagged el place tag xs)

abbrev pub tagged_input : Option TypedElement → Option ℕ → List ℕ → Option (List TypedTarget) → Option TypedInput
tagged_input None place tag xs = None
tagged_input (Some el) place tag None = None
tagged_input (Some el) place tag (Some xs) = tagged_at el place tag xs

unfoldable pub tagged_tree : Scope → Element → List ℕ → List InputItem → Option TypedInput
tagged_tree s el tag items = tagged_input (element_tree s el) (tag_place (carrier_of s el) tag) tag (received_trees (items_received s items))

-- ---- an input as a process or a guard

abbrev pub input_faults : Scope → Input → List Fault
input_faults s (input.Plain el item items) = plain_faults s el (item ∷ items)
input_faults s (input.After el e) = after_faults s el e
input_faults s (input.Tagged el tag items) = tagged_faults s el tag items

abbrev pub input_tree : Scope → Input → Option TypedInput
input_tree s (input.Plain el item items) = plain_tree s el (item ∷ items)
input_tree s (input.After el e) = after_tree s el e
input_tree s (input.Tagged el tag items) = tagged_tree s el tag items

-- ---- `el ? CASE`, over its variants

unfoldable pub case_faults : Scope → Element → List Fault
case_faults s el = (through s el).faults ++ cased (carrier_of s el) (root_of s el)
