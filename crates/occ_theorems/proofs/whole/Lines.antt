-- Each line of a unit without faults: what it is, is known, and so is what comes into scope by it.
use Rattle.std.proofs.Common.{◌≡◌, ◌++◌, ◌||◌, ℕ, Bool, true, false, List, [], ◌∷◌, Option, Some, None, if◌then◌else◌, refl, sym, subst}
use Rattle.std.specs.List.{list_any}
use Rattle.std.specs.Str.{bytes_eq}
use Rattle.occ_base.specs.declared.fault.Fault.{Fault}
use Rattle.occ_expr_operations.specs.Sides.{one_call}
use Rattle.occ_expr.specs.Trees.{element_tree, int_tree}
use Rattle.occ_expr_operations.specs.Sides as sides
use Rattle.occ_expr_operations.specs.Views.{expr_view, operand_view}
use Rattle.occ_expr_operations.proofs.Views as views
use Rattle.occ_forms_expressions.specs.declared.tree.Bounds.{Bounds}
use Rattle.occ_forms_expressions.specs.declared.tree.Bounds.TheOpen.{Expr-F, Operand-F}
use Rattle.occ_forms_expressions.specs.declared.tree.Bounds.TheViews.{roll-out-Expr, roll-out-Operand}
use Rattle.occ_forms_expressions.specs.declared.tree.Builtin.{Builtin}
use Rattle.occ_forms_expressions.specs.declared.tree.Dimension.{Dimension}
use Rattle.occ_forms_expressions.specs.declared.tree.Element.{Element}
use Rattle.occ_forms_expressions.specs.declared.tree.Expr.{Expr, out-Expr, roll-Expr}
use Rattle.occ_forms_expressions.specs.declared.tree.Expr.TheVariants as xv
use Rattle.occ_forms_expressions.specs.declared.tree.NamedOperand.{NamedOperand}
use Rattle.occ_forms_expressions.specs.declared.tree.Operand.{Operand, out-Operand, roll-Operand}
use Rattle.occ_forms_expressions.specs.declared.tree.Operand.TheVariants as ov
use Rattle.occ_forms_expressions.specs.declared.tree.TypeForm.{TypeForm}
use Rattle.occ_forms.specs.declared.tree.Action.{Action}
use Rattle.occ_forms.specs.declared.tree.Action.TheVariants as action
use Rattle.occ_forms.specs.declared.tree.Construct.{Construct}
use Rattle.occ_forms.specs.declared.tree.Construct.TheVariants as construct
use Rattle.occ_forms.specs.declared.tree.ConstructKind.{ConstructKind}
use Rattle.occ_forms.specs.declared.tree.ConstructKind.TheVariants as word
use Rattle.occ_forms.specs.declared.tree.Detail.{Detail}
use Rattle.occ_forms.specs.declared.tree.Form.{Form}
use Rattle.occ_forms.specs.declared.tree.Form.TheVariants as form
use Rattle.occ_forms.specs.declared.tree.Guarded.{Guarded}
use Rattle.occ_forms.specs.declared.tree.Guarded.TheVariants as guarded
use Rattle.occ_forms.specs.declared.tree.PartForm.{PartForm}
use Rattle.occ_forms.specs.declared.tree.PartForm.TheVariants as part
use Rattle.occ_scope.specs.declared.meaning.ScopeEntry.{ScopeEntry}
use Rattle.occ_scope.specs.declared.scope.Scope.{Scope}
use Rattle.occ_project.specs.declared.expanded.ExpandedBody.{ExpandedBody}
use Rattle.occ_project.specs.declared.expanded.ExpandedBody.TheVariants as body
use Rattle.occ_typing_statements.specs.Replicating as replicating
use Rattle.occ_forms.specs.declared.specification_tree.FunctionHead.{FunctionHead}
use Rattle.occ_forms.specs.declared.specification_tree.Head.{Head}
use Rattle.occ_forms.specs.declared.specification_tree.Head.TheVariants as head
use Rattle.occ_forms.specs.declared.specification_tree.Specification.{Specification}
use Rattle.occ_forms.specs.declared.specification_tree.Specification.TheVariants as specification
use Rattle.occ_forms.specs.declared.specification_tree.Specified.TheVariants as specified
use Rattle.occ_tree.specs.Forest.{Forest}
use Rattle.occ_tree.specs.Obeys.{ObeysUnder, root_sorts}
use Rattle.occ_tree.specs.Sorts.{body_sort, construct_sort, expression_sort, expression_sort_step, expressions_sort, form_sort, guarded_sort, head_sort, is_element_part, is_name, is_type_part, operand_sort, operand_sort_step, part_sort, parts_sort, plain_sort, replicated_sort, specification_sort}
use Rattle.occ_tree.specs.Table.{is_process, is_valof, is_variant, may_stand, own_row, row_under}
use Rattle.occ_tree.specs.declared.row.Row.{Row}
use Rattle.occ_tree.specs.declared.sort.Sort.{Sort}
use Rattle.occ_tree.specs.declared.sort.Sort.TheVariants as sort
use Rattle.occ_typing_rules.specs.declared.expr.TypedExpr.{TypedExpr}
use Rattle.occ_typing_statements.specs.declared.instances.TypedInstance.{TypedInstance}
use Rattle.occ_typing_statements.specs.Inputs.{input_tree}
use Rattle.occ_typing_statements.specs.Sending.{output_tree}
use Rattle.occ_typing_statements.specs.Variants.{variant_tree}
use Rattle.occ_typing_statements.specs.declared.variants.CaseInput.{CaseInput}
use Rattle.occ_typing_statements.specs.Instances.{instance_faults, instance_tree}
use Rattle.occ_typing_specifications.specs.Heads.{function}
use Rattle.occ_typing_lines.specs.Actions.{action_faults, action_form, assigning, sending}
use Rattle.occ_typing_lines.specs.Constructs.{block_of, constructing, replicated, replicating_of, role_of}
use Rattle.occ_typing_lines.specs.Judging.{form_line, judged, line, member}
use Rattle.occ_typing_lines.specs.Lines.{made, main}
use Rattle.occ_typing_lines.specs.Parts.{expressing_in, guard_faults, guard_of, guard_role, guard_tree, guarded_form, instance_form, instance_line, of_role, otherwise_in, parting, resulting_in, results_in, results_of, tagged_in, valued_in, variant, variant_named, varied}
use Rattle.occ_typing_lines.specs.Protocols.{protocol_of}
use Rattle.occ_typing_lines.specs.Records.{record_of}
use Rattle.occ_typing_lines.specs.Specifying.{declared_line, function_faults, function_form, function_line, heading, one_line, one_line_function}
use Rattle.occ_typing_lines.specs.Using.{entries_of, imported, interface_of, interfaces_of}
use Rattle.occ_typing_lines.specs.declared.parent.Line.{Line}
use Rattle.occ_typing_lines.specs.declared.parent.Parent.{Parent}
use Rattle.occ_typing_lines.specs.declared.parent.Role.{Role}
use Rattle.occ_typing_lines.specs.declared.parent.Role.TheVariants as role
use Rattle.occ_typing_lines.specs.declared.tree.TypedForm.{TypedForm}
use Rattle.occ_typing_lines.specs.declared.tree.TypedForm.TheVariants as t
use Rattle.occ_typing_lines.specs.declared.tree.TypedGuard.{TypedGuard}
use Rattle.occ_typing_lines.specs.declared.tree.TypedGuard.TheVariants as guard
use Rattle.occ_typing_lines.specs.declared.using.Import.{Import}
use Rattle.occ_typing_specifications.specs.Protocols.{protocol}
use Rattle.occ_typing_specifications.specs.Declaring.{declaration}
use Rattle.occ_typing_specifications.specs.Defining.{data_type}
use Rattle.occ_typing_specifications.specs.Entering.{Declared}
use Rattle.occ_typing_statements.specs.Statements.{condition}
use Rattle.occ_typing_statements.specs.StatementTrees.{assignment_tree, condition_tree}
use Rattle.occ_types.specs.declared.interface.Interface.{Interface}
use Rattle.occ_typing.specs.Known.{AreKnownEntries, IsKnownScope}
use Rattle.occ_typing.specs.Whole.{AreKnownAdds, AreKnownImports, IsKnownInterface, IsWholeForm}
use Rattle.occ_typing.specs.WholeTrees.{AllAre, AreWholeExprs, IsWholeElement, IsWholeExpr, IsWholeGuard, IsWholeInput, IsWholeReplicator}
use Rattle.occ_theorems.proofs.whole.Bodies.{protocol_tags_known, record_fields_known}
use Rattle.occ_theorems.proofs.whole.Clean.{Has, IsThere, back_clean, front_clean}
use Rattle.occ_theorems.proofs.whole.Exchanges.{IsWholeSending, IsWholeVariant, case_known, input_there, output_there, variant_there}
use Rattle.occ_theorems.proofs.whole.Heads.{function_known, function_line_known, procedure_known, replicator_known, results_known}
use Rattle.occ_theorems.proofs.whole.Instances.{InstanceKnown, instance_there}
use Rattle.occ_theorems.proofs.whole.Protocols.{name_found, protocol_known, tagged_known}
use Rattle.occ_theorems.proofs.whole.Rows.{IsExpressionSort, IsFunctionRole, NoMembers, StandIn, Suits, function_only, no_record, nowhere, plain_under, process_only, result_role, valof_role, variant_only, variant_parts}
use Rattle.occ_theorems.proofs.whole.Specifications.{Specified as SpecifiedKnown, abbreviation_known, data_type_known, declaration_known, recast_element_known, recast_value_known, recorded_known, value_known_line}
use Rattle.occ_theorems.proofs.whole.Statements.{IsWholeAssignment, assignment_there, condition_there, options_there, selector_reads}

-- a line of this sort in this row
pub record LineKnown (r : Row) (s : Sort) (x : Line) : Type 0 where
  pub form : IsWholeForm x.form
  pub enters : AreKnownEntries x.enters
  pub adds : AreKnownAdds x.adds
  pub under : Suits (row_under r s) x.parent.role
  pub next : is_valof s ≡ false → Suits r x.next.role

made_known : {X : Type 0} (P : X → Type 0) (f : X → TypedForm) (o : Option X) → ((x : X) → P x → IsWholeForm (f x)) → Has P o → IsWholeForm (made f o)
made_known P f None h g = absurd g
made_known P f (Some x) h g = h x g

-- a main line over processes, if over any
main_known : (r : Row) (p : Parent) (s : Sort) (fs : List Fault) (f : TypedForm) → NoMembers p.role → Suits r p.role → own_row s ≡ None → IsWholeForm f → LineKnown r s (main fs f p).line
main_known r p s fs f h g e i = record { form = i; enters = tt; adds = tt; under = plain_under r p.role s h g e; next = λ _. g }

declared_known : (r : Row) (p : Parent) (s : Sort) (x : Declared) (f : TypedForm) → NoMembers p.role → Suits r p.role → own_row s ≡ None → AreKnownEntries x.adds → IsWholeForm f → LineKnown r s (declared_line x f p).line
declared_known r p s x f h g e a i = record { form = i; enters = tt; adds = a; under = plain_under r p.role s h g e; next = λ _. g }

-- ---- specifications of one line

specified_known : (r : Row) (p : Parent) (s : Sort) (x : Declared) {X : Type 0} (P : X → Type 0) (f : X → TypedForm) (o : Option X) → NoMembers p.role → Suits r p.role → own_row s ≡ None → ((y : X) → P y → IsWholeForm (f y)) → SpecifiedKnown x (Has P o) → LineKnown r s (declared_line x (made f o) p).line
specified_known r p s x P f o h g e i a = declared_known r p s x (made f o) h g e a.adds (made_known P f o i a.form)

function_line_of : (r : Row) (p : Parent) (s : Scope) (fh : FunctionHead) (es : List Expr) → NoMembers p.role → Suits r p.role → IsKnownScope s → function_faults s (function s fh) es ≡ [] → LineKnown r sort.GlobalSpecification (function_line s fh es p).line
unfolding function_form
function_line_of r p s fh es h g known e =
    let x = function_line_known s fh es known e in
    record {
      form = made_known AreWholeExprs (one_line_function (function s fh).heading.formals) _ (λ _ y. (x.formals, y)) x.results;
      enters = tt;
      adds = (x.meaning, tt);
      under = plain_under r p.role sort.GlobalSpecification h g refl;
      next = λ _. g;
    }

one_line_known : (r : Row) (p : Parent) (s : Scope) (x : Specification) → NoMembers p.role → Suits r p.role → IsKnownScope s → (one_line s x p).faults ≡ [] → LineKnown r (specification_sort x) (one_line s x p).line
one_line_known r p s (specification.Declaration of first more) h g known e = declared_known r p sort.Declaration (declaration s of first more) t.Declaration h g refl (declaration_known s of first more known e) tt
one_line_known r p s (specification.Value of name x) h g known e = specified_known r p sort.GlobalSpecification _ IsWholeExpr t.Value _ h g refl (λ _ y. y) (value_known_line s of name x known e)
one_line_known r p s (specification.DataType name of) h g known e = declared_known r p sort.GlobalSpecification (data_type s name of) t.DataType h g refl (data_type_known s name of known e) tt
one_line_known r p s (specification.Function fh x xs) h g known e = function_line_of r p s fh (x ∷ xs) h g known e
one_line_known r p s (specification.Abbreviation of name el) h g known e = specified_known r p sort.LocalSpecification _ IsWholeElement t.Abbreviation _ h g refl (λ _ y. y) (abbreviation_known s of name el known e)
one_line_known r p s (specification.Retyped how of name el) h g known e = specified_known r p sort.LocalSpecification _ IsWholeElement t.Retyped _ h g refl (λ _ y. y) (recast_element_known s how of name el known e)
one_line_known r p s (specification.RetypedValue how of name x) h g known e = specified_known r p sort.GlobalSpecification _ IsWholeExpr t.RetypedValue _ h g refl (λ _ y. y) (recast_value_known s how of name x known e)
one_line_known r p s (specification.Protocol name item items) h g known e = declared_known r p sort.GlobalSpecification (protocol s name (item ∷ items)) t.Protocol h g refl (protocol_known s name (item ∷ items) known e) tt

-- ---- heads

heading_known : (r : Row) (p : Parent) (s : Scope) (x : Head) (under : Forest) → NoMembers p.role → Suits r p.role → IsKnownScope s → StandIn (row_under r (head_sort x)) (root_sorts under) → ObeysUnder (row_under r (head_sort x)) under
    → (heading s x under p).faults ≡ [] → (heading s x under p).beneath ≡ [] → LineKnown r (head_sort x) (heading s x under p).line
heading_known r p s (head.Procedure inlined name formals) under h g known st ob e b =
    let x = procedure_known s formals known e in
    record { form = tt; enters = x.formals; adds = (x.meaning, tt); under = tt; next = λ _. g }
heading_known r p s (head.Function fh) under h g known st ob e b =
    let x = function_known s fh known e in
    record { form = tt; enters = x.formals; adds = (x.meaning, tt); under = (tt, x.results); next = λ _. g }
heading_known r p s (head.Protocol name) under h g known st ob e b =
    record { form = tt; enters = tt; adds = (tagged_known name (protocol_of s under).tags (protocol_tags_known s under st ob known b) e, tt); under = tt; next = λ _. g }
heading_known r p s (head.DataType name) under h g known st ob e b =
    record { form = tt; enters = tt; adds = (recorded_known name (record_of s under).packing (record_of s under).fields.fields (record_fields_known s under known b) e, tt); under = tt; next = λ _. g }

-- ---- actions

action_known : (s : Scope) (a : Action) → IsKnownScope s → action_faults s a ≡ [] → IsWholeForm (action_form s a)
action_known s action.Skip known e = tt
action_known s action.Stop known e = tt
action_known s (action.Assignment el els x xs) known e = made_known IsWholeAssignment assigning (assignment_tree s (el ∷ els) (x ∷ xs)) (λ _ y. y) (assignment_there s (el ∷ els) (x ∷ xs) known e)
action_known s (action.Output el item items) known e = made_known IsWholeSending sending (output_tree s el item items) (λ _ y. y) (output_there s el item items known e)
action_known s (action.Input i) known e = made_known IsWholeInput t.Input (input_tree s i) (λ _ y. y) (input_there s i known e)

action_own : (a : Action) → own_row (form_sort (form.Action a)) ≡ None
action_own action.Skip = refl
action_own action.Stop = refl
action_own (action.Assignment el els x xs) = refl
action_own (action.Output el item items) = refl
action_own (action.Input i) = refl

-- ---- constructs

plain_suits : (r : Row) (w : ConstructKind) → Suits (row_under r (plain_sort w)) (role_of w)
plain_suits r word.Sequence = tt
plain_suits r word.Parallel = tt
plain_suits r word.PriParallel = tt
plain_suits r word.Conditional = tt
plain_suits r word.Alternation = tt
plain_suits r word.PriAlternation = tt

replicated_suits : (r : Row) (w : ConstructKind) → Suits (row_under r (replicated_sort w)) (role_of w)
replicated_suits r word.Sequence = tt
replicated_suits r word.Parallel = tt
replicated_suits r word.PriParallel = tt
replicated_suits r word.Conditional = tt
replicated_suits r word.Alternation = tt
replicated_suits r word.PriAlternation = tt

construct_known : (r : Row) (p : Parent) (s : Scope) (x : Construct) → NoMembers p.role → Suits r p.role → IsKnownScope s → (constructing s x p).faults ≡ [] → LineKnown r (construct_sort x) (constructing s x p).line
construct_known r p s (construct.Replicable w None) h g known e = record { form = tt; enters = tt; adds = tt; under = plain_suits r w; next = λ _. g }
construct_known r p s (construct.Replicable w (Some x)) h g known e =
    let y = replicator_known s (replicating_of w) p.rounds x known e in
    record { form = made_known IsWholeReplicator (replicated (block_of w)) (replicating.tree s p.rounds x) (λ _ z. z) y.tree; enters = y.index; adds = tt; under = replicated_suits r w; next = λ _. g }
construct_known r p s (construct.While x) h g known e =
    record { form = made_known IsWholeExpr t.While (condition_tree s x) (λ _ z. z) (condition_there s x known e); enters = tt; adds = tt; under = tt; next = λ _. g }
construct_known r p s (construct.Case x) h g known e =
    let y = selector_reads s x known e in
    record { form = made_known IsWholeExpr t.Selection (int_tree s x) (λ _ z. z) y.1; enters = tt; adds = tt; under = (tt, y.0); next = λ _. g }
construct_known r p s (construct.CaseInput el) h g known e =
    let y = case_known s el known e in
    record { form = made_known IsWholeElement t.CaseInput (element_tree s el) (λ _ z. z) y.tree; enters = tt; adds = tt; under = (tt, y.variants); next = λ _. g }

-- ---- what sort of line an expression is

name_or : Bool → Sort
name_or b = if b then sort.Name else sort.Expression

no_process : (b : Bool) → is_process (name_or b) ≡ true → ⊥
unfolding name_or
no_process true e = absurd cc
no_process false e = absurd cc

name_expression : (b : Bool) → IsExpressionSort (name_or b)
unfolding name_or
name_expression true = tt
name_expression false = tt

only_name : (b : Bool) → is_variant (name_or b) ≡ true → b ≡ true
unfolding name_or
only_name true e = refl
only_name false e = absurd cc

abbrev OperandLayer : Type 0
OperandLayer = Operand-F Bounds Builtin Dimension Element Expr NamedOperand Operand TypeForm

abbrev ExprLayer : Type 0
ExprLayer = Expr-F Bounds Builtin Dimension Element Expr NamedOperand Operand TypeForm

operand_calls : (y : OperandLayer) → is_process (operand_sort_step y) ≡ true → IsThere (sides.operand_layer y)
unfolding name_or
operand_calls (Operand-F.Operand::Element el) e = no_process (is_name el) e
operand_calls (Operand-F.Operand::Literal l) e = absurd cc
operand_calls (Operand-F.Operand::Decorated l ty) e = absurd cc
operand_calls (Operand-F.Operand::Truth b) e = absurd cc
operand_calls (Operand-F.Parens x) e = absurd cc
operand_calls (Operand-F.Operand::Table x xs) e = absurd cc
operand_calls (Operand-F.Operand::DecoratedTable x xs ty) e = absurd cc
operand_calls (Operand-F.Operand::Call n xs) e = tt

operand_expression : (y : OperandLayer) → IsExpressionSort (operand_sort_step y)
unfolding name_or
operand_expression (Operand-F.Operand::Element el) = name_expression (is_name el)
operand_expression (Operand-F.Operand::Literal l) = tt
operand_expression (Operand-F.Operand::Decorated l ty) = tt
operand_expression (Operand-F.Operand::Truth b) = tt
operand_expression (Operand-F.Parens x) = tt
operand_expression (Operand-F.Operand::Table x xs) = tt
operand_expression (Operand-F.Operand::DecoratedTable x xs ty) = tt
operand_expression (Operand-F.Operand::Call n xs) = tt

operand_named : (y : OperandLayer) → is_variant (operand_sort_step y) ≡ true → IsThere (operand_view (roll-Operand y)).name
unfolding name_or
operand_named (Operand-F.Operand::Element el) e = subst (λ (o : Operand). IsThere (operand_view o).name) (sym (ov.rolls-Element el)) (subst IsThere (sym (views.operand_element_name el)) (name_found el (only_name (is_name el) e)))
operand_named (Operand-F.Operand::Literal l) e = absurd cc
operand_named (Operand-F.Operand::Decorated l ty) e = absurd cc
operand_named (Operand-F.Operand::Truth b) e = absurd cc
operand_named (Operand-F.Parens x) e = absurd cc
operand_named (Operand-F.Operand::Table x xs) e = absurd cc
operand_named (Operand-F.Operand::DecoratedTable x xs ty) e = absurd cc
operand_named (Operand-F.Operand::Call n xs) e = absurd cc

expr_calls : (y : ExprLayer) → is_process (expression_sort_step y) ≡ true → IsThere (sides.expr_layer y)
unfolding operand_sort
expr_calls (Expr-F.Alone o) e = operand_calls (out-Operand o) e
expr_calls (Expr-F.Run op a b os) e = absurd cc
expr_calls (Expr-F.Pair a op b) e = absurd cc
expr_calls (Expr-F.Applied op o) e = absurd cc
expr_calls (Expr-F.Converted ds b o) e = absurd cc
expr_calls (Expr-F.ArrayConverted d ds n o) e = absurd cc
expr_calls (Expr-F.Expr::Named n o) e = absurd cc
expr_calls (Expr-F.Most x ty) e = absurd cc

expr_expression : (y : ExprLayer) → IsExpressionSort (expression_sort_step y)
unfolding operand_sort
expr_expression (Expr-F.Alone o) = operand_expression (out-Operand o)
expr_expression (Expr-F.Run op a b os) = tt
expr_expression (Expr-F.Pair a op b) = tt
expr_expression (Expr-F.Applied op o) = tt
expr_expression (Expr-F.Converted ds b o) = tt
expr_expression (Expr-F.ArrayConverted d ds n o) = tt
expr_expression (Expr-F.Expr::Named n o) = tt
expr_expression (Expr-F.Most x ty) = tt

expr_named : (y : ExprLayer) → is_variant (expression_sort_step y) ≡ true → IsThere (expr_view (roll-Expr y)).name
unfolding operand_sort
expr_named (Expr-F.Alone o) e =
    subst (λ (x : Expr). IsThere (expr_view x).name) (sym (xv.rolls-Alone o))
    (subst IsThere (sym (views.expr_alone_name o)) (subst (λ (z : Operand). IsThere (operand_view z).name) (roll-out-Operand o) (operand_named (out-Operand o) e)))
expr_named (Expr-F.Run op a b os) e = absurd cc
expr_named (Expr-F.Pair a op b) e = absurd cc
expr_named (Expr-F.Applied op o) e = absurd cc
expr_named (Expr-F.Converted ds b o) e = absurd cc
expr_named (Expr-F.ArrayConverted d ds n o) e = absurd cc
expr_named (Expr-F.Expr::Named n o) e = absurd cc
expr_named (Expr-F.Most x ty) e = absurd cc

calls : (e : Expr) (es : List Expr) → is_process (expressions_sort e es) ≡ true → IsThere (one_call (e ∷ es))
unfolding expression_sort
calls e [] h = expr_calls (out-Expr e) h
calls e (f ∷ es) h = absurd cc

is_expression : (e : Expr) (es : List Expr) → IsExpressionSort (expressions_sort e es)
unfolding expression_sort
is_expression e [] = expr_expression (out-Expr e)
is_expression e (f ∷ es) = tt

is_named : (e : Expr) (es : List Expr) → is_variant (expressions_sort e es) ≡ true → IsThere (expr_view e).name
unfolding expression_sort
is_named e [] h = subst (λ (x : Expr). IsThere (expr_view x).name) (roll-out-Expr e) (expr_named (out-Expr e) h)
is_named e (f ∷ es) h = absurd cc

expression_own : (s : Sort) → IsExpressionSort s → own_row s ≡ None
expression_own sort.Name h = refl
expression_own sort.Call h = refl
expression_own sort.Expression h = refl
expression_own sort.Expressions h = refl
expression_own _ h = absurd h

-- ---- lines of expressions

instance_made : (o : Option TypedInstance) → InstanceKnown o → IsWholeForm (made instance_form o)
instance_made None h = absurd h
instance_made (Some x) h = h

instance_known : (r : Row) (n : ℕ) (x : Role) (s : Scope) (e : Expr) (es : List Expr) → NoMembers x → Suits r x → IsThere (one_call (e ∷ es)) → IsKnownScope s → instance_faults s (e ∷ es) ≡ [] → LineKnown r (expressions_sort e es) (instance_line s (e ∷ es) (of_role n x)).line
instance_known r n x s e es h g c known f =
    main_known r (of_role n x) (expressions_sort e es) (instance_faults s (e ∷ es)) (made instance_form (instance_tree s (e ∷ es))) h g (expression_own (expressions_sort e es) (is_expression e es)) (instance_made (instance_tree s (e ∷ es)) (instance_there s (e ∷ es) c known f))

variant_known : (r : Row) (n : ℕ) (k : Sort) (s : Scope) (x : CaseInput) (tag : List ℕ) (ds : List Detail) → Suits r (role.Variants x) → own_row k ≡ None → list_any is_type_part ds ≡ false → IsKnownScope s → (variant s x n tag ds).faults ≡ [] → LineKnown r k (variant s x n tag ds).line
variant_known r n k s x tag ds g o is known e =
    record { form = made_known IsWholeVariant varied (variant_tree s x tag ds) (λ _ z. z) (variant_there s x tag ds is known g.1 e); enters = tt; adds = tt; under = plain_under r (role.Variants x) k tt g o; next = λ _. g }

variant_named_known : (r : Row) (n : ℕ) (k : Sort) (s : Scope) (x : CaseInput) (tag : Option (List ℕ)) → IsThere tag → Suits r (role.Variants x) → own_row k ≡ None → IsKnownScope s → (variant_named s x n tag).faults ≡ [] → LineKnown r k (variant_named s x n tag).line
variant_named_known r n k s x None h g o known e = absurd h
variant_named_known r n k s x (Some tag) h g o known e = variant_known r n k s x tag [] g o refl known e

expressing_known : (r : Row) (n : ℕ) (x : Role) (s : Scope) (e : Expr) (es : List Expr) → NoMembers x → Suits r x → may_stand r (expressions_sort e es) ≡ true → IsKnownScope s → (expressing_in s e es n x).faults ≡ [] → LineKnown r (expressions_sort e es) (expressing_in s e es n x).line
expressing_known r n role.Process s e es h g st known f =
    instance_known r n role.Process s e es h g (calls e es (process_only r (expressions_sort e es) (is_expression e es) g st)) known f
expressing_known r n role.Conditional s e es h g st known f =
    main_known r (of_role n role.Conditional) (expressions_sort e es) (condition s e) (made t.Condition (condition_tree s e)) h g (expression_own (expressions_sort e es) (is_expression e es)) (made_known IsWholeExpr t.Condition (condition_tree s e) (λ _ z. z) (condition_there s e known f))
expressing_known r n role.Alternation s e es h g st known f = absurd cc
expressing_known r n (role.Selection c) s e es h g st known f =
    record {
      form = made_known AreWholeExprs t.Options _ (λ _ z. z) (options_there s c.selector c.numbers (e ∷ es) known g.1 f);
      enters = tt;
      adds = tt;
      under = plain_under r (role.Selection c) (expressions_sort e es) tt g (expression_own (expressions_sort e es) (is_expression e es));
      next = λ _. g;
    }
expressing_known r n (role.Variants x) s e es h g st known f =
    variant_named_known r n (expressions_sort e es) s x (expr_view e).name (is_named e es (variant_only r (expressions_sort e es) (is_expression e es) g.0 st)) g (expression_own (expressions_sort e es) (is_expression e es)) known f
expressing_known r n (role.Function wanted) s e es h g st known f =
    instance_known r n (role.Function wanted) s e es h g (calls e es (function_only r (expressions_sort e es) (is_expression e es) g.0 st)) known f
expressing_known r n role.Members s e es h g st known f = absurd h

-- ---- lines with tags

parts_own : (a b : Bool) → own_row (parts_sort a b) ≡ None
parts_own false false = refl
parts_own true false = refl
parts_own false true = refl
parts_own true true = refl

tagged_known_line : (r : Row) (n : ℕ) (x : Role) (s : Scope) (name : List ℕ) (d : Detail) (ds : List Detail) → NoMembers x → Suits r x → may_stand r (form_sort (form.Tagged name d ds)) ≡ true → IsKnownScope s → (tagged_in s name (d ∷ ds) n x).faults ≡ [] → LineKnown r (form_sort (form.Tagged name d ds)) (tagged_in s name (d ∷ ds) n x).line
tagged_known_line r n role.Process s name d ds h g st known e = absurd cc
tagged_known_line r n role.Conditional s name d ds h g st known e = absurd cc
tagged_known_line r n role.Alternation s name d ds h g st known e = absurd cc
tagged_known_line r n (role.Selection c) s name d ds h g st known e = absurd cc
tagged_known_line r n (role.Variants x) s name d ds h g st known e =
    let a = is_type_part d || list_any is_type_part ds in
    let b = is_element_part d || list_any is_element_part ds in
    variant_known r n (parts_sort a b) s x name (d ∷ ds) g (parts_own a b) (variant_parts r a b g.0 st) known e
tagged_known_line r n (role.Function wanted) s name d ds h g st known e = absurd cc
tagged_known_line r n role.Members s name d ds h g st known e = absurd h

-- ---- parts

otherwise_known : (r : Row) (n : ℕ) (x : Role) → NoMembers x → Suits r x → LineKnown r sort.Else (otherwise_in n x).line
otherwise_known r n role.Process h g = record { form = tt; enters = tt; adds = tt; under = tt; next = λ _. g }
otherwise_known r n role.Conditional h g = record { form = tt; enters = tt; adds = tt; under = tt; next = λ _. g }
otherwise_known r n role.Alternation h g = record { form = tt; enters = tt; adds = tt; under = tt; next = λ _. g }
otherwise_known r n (role.Selection c) h g = record { form = tt; enters = tt; adds = tt; under = tt; next = λ _. g }
otherwise_known r n (role.Variants y) h g = record { form = tt; enters = tt; adds = tt; under = tt; next = λ _. g }
otherwise_known r n (role.Function wanted) h g = record { form = tt; enters = tt; adds = tt; under = tt; next = λ _. g }
otherwise_known r n role.Members h g = absurd h

valued_known : (r : Row) (n : ℕ) (x : Role) → IsFunctionRole x → Suits r x → LineKnown r sort.ValueOf (valued_in n x).line
valued_known r n (role.Function wanted) h g = record { form = tt; enters = tt; adds = tt; under = (tt, g.1); next = λ e. absurd cc }
valued_known r n role.Process h g = absurd h
valued_known r n role.Conditional h g = absurd h
valued_known r n role.Alternation h g = absurd h
valued_known r n (role.Selection c) h g = absurd h
valued_known r n (role.Variants y) h g = absurd h
valued_known r n role.Members h g = absurd h

resulting_known : (r : Row) (n : ℕ) (x : Role) (s : Scope) (es : List Expr) → IsFunctionRole x → Suits r x → IsKnownScope s → (resulting_in s es n x).faults ≡ [] → LineKnown r sort.Result (resulting_in s es n x).line
resulting_known r n (role.Function wanted) s es h g known e =
    main_known r (of_role n (role.Function wanted)) sort.Result (results_of s wanted es) (made t.Results (results_in s wanted es)) tt g refl (made_known AreWholeExprs t.Results (results_in s wanted es) (λ _ z. z) (results_known s wanted es known g.1 e))
resulting_known r n role.Process s es h g known e = absurd h
resulting_known r n role.Conditional s es h g known e = absurd h
resulting_known r n role.Alternation s es h g known e = absurd h
resulting_known r n (role.Selection c) s es h g known e = absurd h
resulting_known r n (role.Variants y) s es h g known e = absurd h
resulting_known r n role.Members s es h g known e = absurd h

guard_there : {X : Type 0} (P : X → Type 0) (f : X → TypedGuard) (o : Option X) → ((x : X) → P x → IsWholeGuard (f x)) → Has P o → Has IsWholeGuard (guard_of f o)
guard_there P f None h g = g
guard_there P f (Some x) h g = h x g

record GuardKnown (r : Row) (s : Scope) (x : Guarded) : Type 0 where
  tree : Has IsWholeGuard (guard_tree s x)
  under : Suits (row_under r (guarded_sort x)) (guard_role s x)

guard_known : (r : Row) (s : Scope) (x : Guarded) → IsKnownScope s → guard_faults s x ≡ [] → GuardKnown r s x
guard_known r s guarded.Skip known e = record { tree = tt; under = tt }
guard_known r s (guarded.Input i) known e = record { tree = guard_there IsWholeInput guard.Input (input_tree s i) (λ _ z. z) (input_there s i known e); under = tt }
guard_known r s (guarded.CaseInput el) known e =
    let y = case_known s el known e in record { tree = guard_there IsWholeElement guard.CaseInput (element_tree s el) (λ _ z. z) y.tree; under = (tt, y.variants) }

guarded_is : (e : Option TypedExpr) (x : Option TypedGuard) → Has IsWholeExpr e → Has IsWholeGuard x → IsWholeForm (guarded_form e x)
guarded_is None x h g = absurd h
guarded_is (Some e) None h g = absurd g
guarded_is (Some e) (Some x) h g = (h, g)

part_known : (r : Row) (p : Parent) (s : Scope) (x : PartForm) → NoMembers p.role → Suits r p.role → may_stand r (part_sort x) ≡ true → IsKnownScope s → (parting s x p).faults ≡ [] → LineKnown r (part_sort x) (parting s x p).line
part_known r p s part.Case h g st known e = absurd cc
part_known r p s part.Else h g st known e = otherwise_known r p.rounds p.role h g
part_known r p s part.ValueOf h g st known e = valued_known r p.rounds p.role (valof_role r p.role h g st) g
part_known r p s (part.Result x xs) h g st known e = resulting_known r p.rounds p.role s (x ∷ xs) (result_role r p.role h g st) g known e
part_known r p s part.Record h g st known e = absurd (no_record r p.role h g st)
part_known r p s part.PackedRecord h g st known e = absurd (no_record r p.role h g st)
part_known r p s (part.Guard x y) h g st known e =
    let z = guard_known r s y known (back_clean (condition s x) (guard_faults s y) e) in
    record { form = guarded_is (condition_tree s x) (guard_tree s y) (condition_there s x known (front_clean (condition s x) (guard_faults s y) e)) z.tree; enters = tt; adds = tt; under = z.under; next = λ _. g }

-- ---- imports

both_entries : (xs ys : List ScopeEntry) → AreKnownEntries xs → AreKnownEntries ys → AreKnownEntries (xs ++ ys)
both_entries [] ys h g = g
both_entries (x ∷ xs) ys h g = (h.0, both_entries xs ys h.1 g)

imported_known : (xs : List Interface) → AllAre IsKnownInterface xs → AreKnownEntries (imported xs)
imported_known [] h = tt
imported_known (x ∷ xs) h = both_entries (entries_of x.exports) (imported xs) h.0 (imported_known xs h.1)

found_if : (b : Bool) (x : Interface) (rest : List Interface) → IsKnownInterface x → AllAre IsKnownInterface rest → AllAre IsKnownInterface (if b then x ∷ [] else rest)
found_if true x rest h g = (h, tt)
found_if false x rest h g = g

interface_known : (unit : List ℕ) (is : List Import) → AreKnownImports is → AllAre IsKnownInterface (interface_of unit is)
interface_known unit [] h = tt
interface_known unit (i ∷ is) h = found_if (bytes_eq i.unit unit) i.interface (interface_of unit is) h.0 (interface_known unit is h.1)

both_known : (xs ys : List Interface) → AllAre IsKnownInterface xs → AllAre IsKnownInterface ys → AllAre IsKnownInterface (xs ++ ys)
both_known [] ys h g = g
both_known (x ∷ xs) ys h g = (h.0, both_known xs ys h.1 g)

interfaces_known : (units : List (List ℕ)) (is : List Import) → AreKnownImports is → AllAre IsKnownInterface (interfaces_of units is)
interfaces_known [] is h = tt
interfaces_known (unit ∷ units) is h = both_known (interface_of unit is) (interfaces_of units is) (interface_known unit is h) (interfaces_known units is h)

-- ---- all lines

form_known : (r : Row) (p : Parent) (s : Scope) (x : Form) (under : Forest) → NoMembers p.role → Suits r p.role → may_stand r (form_sort x) ≡ true → StandIn (row_under r (form_sort x)) (root_sorts under) → ObeysUnder (row_under r (form_sort x)) under → IsKnownScope s
    → (form_line s x under p).faults ≡ [] → (form_line s x under p).beneath ≡ [] → LineKnown r (form_sort x) (form_line s x under p).line
form_known r p s (form.Specified (specified.Line x)) under h g st so ob known e b = one_line_known r p s x h g known e
form_known r p s (form.Specified (specified.Head x)) under h g st so ob known e b = heading_known r p s x under h g known so ob e b
form_known r p s form.Close under h g st so ob known e b = record { form = tt; enters = tt; adds = tt; under = plain_under r p.role sort.Close h g refl; next = λ _. g }
form_known r p s (form.Action a) under h g st so ob known e b = main_known r p (form_sort (form.Action a)) (action_faults s a) (action_form s a) h g (action_own a) (action_known s a known e)
form_known r p s (form.Construct x) under h g st so ob known e b = construct_known r p s x h g known e
form_known r p s (form.Part x) under h g st so ob known e b = part_known r p s x h g st known e
form_known r p s (form.Expressions x xs) under h g st so ob known e b = expressing_known r p.rounds p.role s x xs h g st known e
form_known r p s (form.Tagged name d ds) under h g st so ob known e b = tagged_known_line r p.rounds p.role s name d ds h g st known e

body_known : (is : List Import) (r : Row) (p : Parent) (s : Scope) (x : ExpandedBody) (under : Forest) → AreKnownImports is → NoMembers p.role → Suits r p.role → may_stand r (body_sort x) ≡ true → StandIn (row_under r (body_sort x)) (root_sorts under) → ObeysUnder (row_under r (body_sort x)) under → IsKnownScope s
    → (line is s x under p).faults ≡ [] → (line is s x under p).beneath ≡ [] → LineKnown r (body_sort x) (line is s x under p).line
body_known is r p s (body.Form f) under i h g st so ob known e b = form_known r p s f under h g st so ob known e b
body_known is r p s (body.Uses units) under i h g st so ob known e b =
    let shown = interfaces_known units is i in
    record { form = shown; enters = tt; adds = imported_known (interfaces_of units is) shown; under = plain_under r p.role sort.GlobalSpecification h g refl; next = λ _. g }
body_known is r p s (body.Fault code) under i h g st so ob known e b = absurd (nowhere r st)

-- a line that is reported with the head over it
member_known : (r : Row) (k : Sort) (n : ℕ) → LineKnown r k (member (of_role n role.Members)).line
member_known r k n = record { form = tt; enters = tt; adds = tt; under = tt; next = λ _. tt }

by_role : (is : List Import) (r : Row) (n : ℕ) (x' : Role) (s : Scope) (x : ExpandedBody) (under : Forest) → AreKnownImports is → Suits r x' → may_stand r (body_sort x) ≡ true → StandIn (row_under r (body_sort x)) (root_sorts under) → ObeysUnder (row_under r (body_sort x)) under → IsKnownScope s
    → (judged is s x under (of_role n x')).faults ≡ [] → (judged is s x under (of_role n x')).beneath ≡ [] → LineKnown r (body_sort x) (judged is s x under (of_role n x')).line
unfolding judged
by_role is r n role.Process s x under i g st so ob known e b = body_known is r (of_role n role.Process) s x under i tt g st so ob known e b
by_role is r n role.Conditional s x under i g st so ob known e b = body_known is r (of_role n role.Conditional) s x under i tt g st so ob known e b
by_role is r n role.Alternation s x under i g st so ob known e b = body_known is r (of_role n role.Alternation) s x under i tt g st so ob known e b
by_role is r n (role.Selection c) s x under i g st so ob known e b = body_known is r (of_role n (role.Selection c)) s x under i tt g st so ob known e b
by_role is r n (role.Variants y) s x under i g st so ob known e b = body_known is r (of_role n (role.Variants y)) s x under i tt g st so ob known e b
by_role is r n (role.Function wanted) s x under i g st so ob known e b = body_known is r (of_role n (role.Function wanted)) s x under i tt g st so ob known e b
by_role is r n role.Members s x under i g st so ob known e b = member_known r (body_sort x) n

pub line_known : (is : List Import) (r : Row) (p : Parent) (s : Scope) (x : ExpandedBody) (under : Forest) → AreKnownImports is → Suits r p.role → may_stand r (body_sort x) ≡ true → StandIn (row_under r (body_sort x)) (root_sorts under) → ObeysUnder (row_under r (body_sort x)) under → IsKnownScope s
    → (judged is s x under p).faults ≡ [] → (judged is s x under p).beneath ≡ [] → LineKnown r (body_sort x) (judged is s x under p).line
line_known is r p s x under i g st so ob known e b = by_role is r p.rounds p.role s x under i g st so ob known e b
