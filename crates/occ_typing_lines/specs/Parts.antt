-- What lines under IF, CASE, ALT, case inputs and FUNCTION report: conditions, options, ELSE, guards, variants, VALOF and
-- RESULT.
use Rattle.std.specs.Prelude.{ℕ, Bool, true, Option, Some, None, List, [], ◌∷◌, ◌++◌, if◌then◌else◌}
use Rattle.occ_base.specs.declared.code.Code.TheVariants as code
use Rattle.occ_forms_expressions.specs.declared.tree.Expr.{Expr}
use Rattle.occ_forms.specs.declared.tree.PartForm.{PartForm}
use Rattle.occ_forms.specs.declared.tree.PartForm.TheVariants as part
use Rattle.occ_scope.specs.declared.scope.Scope.{Scope}
use Rattle.occ_base.specs.Reporting.{nameless}
use Rattle.occ_base.specs.declared.fault.Fault.{Fault}
use Rattle.occ_expr.specs.Trees.{element_tree}
use Rattle.occ_typing_rules.specs.Choosing.{Chosen}
use Rattle.occ_typing_statements.specs.Statements.{condition, hidden_results, options, results}
use Rattle.occ_typing_specifications.specs.declared.heading.Expected.{Expected}
use Rattle.occ_typing_specifications.specs.declared.heading.Expected.TheVariants as expected
use Rattle.occ_typing_rules.specs.declared.expr.TypedExpr.{TypedExpr}
use Rattle.occ_typing_statements.specs.StatementTrees.{condition_tree, options_trees, results_trees}
use Rattle.occ_expr_operations.specs.Views.{expr_view}
use Rattle.occ_forms.specs.declared.tree.Detail.{Detail}
use Rattle.occ_forms.specs.declared.tree.Guarded.{Guarded}
use Rattle.occ_forms.specs.declared.tree.Guarded.TheVariants as guarded
use Rattle.occ_typing_statements.specs.Inputs.{case_faults, input_faults, input_tree}
use Rattle.occ_typing_statements.specs.Variants.{begun, variant_faults, variant_tree, with_tag}
use Rattle.occ_typing_statements.specs.declared.variants.CaseInput.{CaseInput}
use Rattle.occ_typing_statements.specs.declared.variants.TypedVariant.{TypedVariant}
use Rattle.occ_typing_statements.specs.Instances.{instance_faults, instance_tree}
use Rattle.occ_typing_statements.specs.declared.instances.TypedInstance.{TypedInstance}
use Rattle.occ_typing_lines.specs.Lines.{Own, beyond, made, main, over, with_role}
use Rattle.occ_typing_lines.specs.declared.tree.TypedForm.{TypedForm}
use Rattle.occ_typing_lines.specs.declared.tree.TypedForm.TheVariants as t
use Rattle.occ_typing_lines.specs.declared.parent.Choosing.{Choosing}
use Rattle.occ_typing_lines.specs.declared.parent.Parent.{Parent}
use Rattle.occ_typing_lines.specs.declared.parent.Role.{Role}
use Rattle.occ_typing_lines.specs.declared.parent.Role.TheVariants as role
use Rattle.occ_typing_lines.specs.declared.tree.TypedGuard.{TypedGuard}
use Rattle.occ_typing_lines.specs.declared.tree.TypedGuard.TheVariants as guard

-- ---- options of a CASE

-- lines that stand so often, of which this is said
abbrev pub of_role : ℕ → Role → Parent
of_role n r = record { role = r; rounds = n }

abbrev pub chosen : Choosing → ℕ → Chosen → Option (List TypedExpr) → Own
chosen c n x trees = main x.faults (made t.Options trees) (of_role n (role.Selection (record { selector = c.selector; numbers = x.numbers; otherwise = c.otherwise })))

abbrev pub option : Scope → Choosing → ℕ → List Expr → Own
option s c n es = chosen c n (options s c.selector c.numbers es) (options_trees s c.selector es)

-- a second ELSE is an option that is there already
abbrev pub second : Bool → List Fault
second otherwise = if otherwise then nameless code.T8 ∷ [] else []

abbrev pub else_option : Choosing → ℕ → Own
else_option c n = main (second c.otherwise) t.Otherwise (of_role n (role.Selection (record { selector = c.selector; numbers = c.numbers; otherwise = true })))

-- ---- variants of a case input

abbrev pub varied : TypedVariant → TypedForm
varied x = t.Variant x.place x.tag x.targets

abbrev pub variant : Scope → CaseInput → ℕ → List ℕ → List Detail → Own
variant s x n tag ds = main (variant_faults s x tag ds) (made varied (variant_tree s x tag ds)) (of_role n (role.Variants (with_tag x tag)))

-- of a name alone
abbrev pub variant_named : Scope → CaseInput → ℕ → Option (List ℕ) → Own
variant_named s x n None = main beyond t.Unknown (of_role n (role.Variants x))
variant_named s x n (Some tag) = variant s x n tag []

-- ---- guards of an ALT

abbrev pub guard_faults : Scope → Guarded → List Fault
guard_faults s guarded.Skip = []
guard_faults s (guarded.Input i) = input_faults s i
guard_faults s (guarded.CaseInput el) = case_faults s el

abbrev pub guard_role : Scope → Guarded → Role
guard_role s guarded.Skip = role.Process
guard_role s (guarded.Input i) = role.Process
guard_role s (guarded.CaseInput el) = role.Variants (begun s el)

abbrev pub guard_of : {X : Type 0} → (X → TypedGuard) → Option X → Option TypedGuard
guard_of form None = None
guard_of form (Some x) = Some (form x)

abbrev pub guard_tree : Scope → Guarded → Option TypedGuard
guard_tree s guarded.Skip = Some guard.Skip
guard_tree s (guarded.Input i) = guard_of guard.Input (input_tree s i)
guard_tree s (guarded.CaseInput el) = guard_of guard.CaseInput (element_tree s el)

abbrev pub guarded_form : Option TypedExpr → Option TypedGuard → TypedForm
guarded_form None g = t.Unknown
guarded_form (Some e) None = t.Unknown
guarded_form (Some e) (Some g) = t.Guard e g

-- `e & g`: the condition, and what stands after it
abbrev pub guarding : Scope → Expr → Guarded → Parent → Own
guarding s e g next = over (condition s e ++ guard_faults s g) (with_role (guard_role s g) next) [] (guarded_form (condition_tree s e) (guard_tree s g)) next

-- ---- results of a FUNCTION: no types are compared with them where its head has a fault

abbrev pub results_of : Scope → Expected → List Expr → List Fault
results_of s (expected.Count n) es = hidden_results s n es
results_of s (expected.Types types) es = results s types es

abbrev pub results_in : Scope → Expected → List Expr → Option (List TypedExpr)
results_in s (expected.Count n) es = None
results_in s (expected.Types types) es = results_trees s types es

-- ---- by the parent; what is not reported here stands where no line of its kind may

abbrev pub instance_form : TypedInstance → TypedForm
instance_form x = t.Instance x.callee x.actuals

-- where a process stands: under VALOF too
abbrev pub instance_line : Scope → List Expr → Parent → Own
instance_line s es next = main (instance_faults s es) (made instance_form (instance_tree s es)) next

abbrev pub expressing_in : Scope → Expr → List Expr → ℕ → Role → Own
expressing_in s e es n role.Process = instance_line s (e ∷ es) (of_role n role.Process)
expressing_in s e es n role.Conditional = main (condition s e) (made t.Condition (condition_tree s e)) (of_role n role.Conditional)
expressing_in s e es n role.Alternation = main beyond t.Unknown (of_role n role.Alternation)
expressing_in s e es n (role.Selection c) = option s c n (e ∷ es)
expressing_in s e es n (role.Variants x) = variant_named s x n (expr_view e).name
expressing_in s e es n (role.Function wanted) = instance_line s (e ∷ es) (of_role n (role.Function wanted))
expressing_in s e es n role.Members = main beyond t.Unknown (of_role n role.Members)

abbrev pub expressing : Scope → Expr → List Expr → Parent → Own
expressing s e es p = expressing_in s e es p.rounds p.role

abbrev pub tagged_in : Scope → List ℕ → List Detail → ℕ → Role → Own
tagged_in s name ds n role.Process = main beyond t.Unknown (of_role n role.Process)
tagged_in s name ds n role.Conditional = main beyond t.Unknown (of_role n role.Conditional)
tagged_in s name ds n role.Alternation = main beyond t.Unknown (of_role n role.Alternation)
tagged_in s name ds n (role.Selection c) = main beyond t.Unknown (of_role n (role.Selection c))
tagged_in s name ds n (role.Variants x) = variant s x n name ds
tagged_in s name ds n (role.Function wanted) = main beyond t.Unknown (of_role n (role.Function wanted))
tagged_in s name ds n role.Members = main beyond t.Unknown (of_role n role.Members)

abbrev pub tagged : Scope → List ℕ → List Detail → Parent → Own
tagged s name ds p = tagged_in s name ds p.rounds p.role

abbrev pub otherwise_in : ℕ → Role → Own
otherwise_in n role.Process = main [] t.Otherwise (of_role n role.Process)
otherwise_in n role.Conditional = main [] t.Otherwise (of_role n role.Conditional)
otherwise_in n role.Alternation = main [] t.Otherwise (of_role n role.Alternation)
otherwise_in n (role.Selection c) = else_option c n
otherwise_in n (role.Variants x) = main [] t.Otherwise (of_role n (role.Variants x))
otherwise_in n (role.Function wanted) = main [] t.Otherwise (of_role n (role.Function wanted))
otherwise_in n role.Members = main [] t.Otherwise (of_role n role.Members)

abbrev pub otherwise : Parent → Own
otherwise p = otherwise_in p.rounds p.role

-- the body of a FUNCTION goes on under VALOF
abbrev pub valued_in : ℕ → Role → Own
valued_in n role.Process = main [] t.ValueOf (of_role n role.Process)
valued_in n role.Conditional = main [] t.ValueOf (of_role n role.Conditional)
valued_in n role.Alternation = main [] t.ValueOf (of_role n role.Alternation)
valued_in n (role.Selection c) = main [] t.ValueOf (of_role n (role.Selection c))
valued_in n (role.Variants x) = main [] t.ValueOf (of_role n (role.Variants x))
valued_in n (role.Function wanted) = over [] (of_role n (role.Function wanted)) [] t.ValueOf (of_role n role.Process)
valued_in n role.Members = main [] t.ValueOf (of_role n role.Members)

abbrev pub valued : Parent → Own
valued p = valued_in p.rounds p.role

abbrev pub resulting_in : Scope → List Expr → ℕ → Role → Own
resulting_in s es n role.Process = main [] t.Unknown (of_role n role.Process)
resulting_in s es n role.Conditional = main [] t.Unknown (of_role n role.Conditional)
resulting_in s es n role.Alternation = main [] t.Unknown (of_role n role.Alternation)
resulting_in s es n (role.Selection c) = main [] t.Unknown (of_role n (role.Selection c))
resulting_in s es n (role.Variants x) = main [] t.Unknown (of_role n (role.Variants x))
resulting_in s es n (role.Function wanted) = main (results_of s wanted es) (made t.Results (results_in s wanted es)) (of_role n (role.Function wanted))
resulting_in s es n role.Members = main [] t.Unknown (of_role n role.Members)

abbrev pub resulting : Scope → List Expr → Parent → Own
resulting s es p = resulting_in s es p.rounds p.role

abbrev pub parting : Scope → PartForm → Parent → Own
parting s part.Case next = main beyond t.Unknown next
parting s part.Else next = otherwise next
parting s part.ValueOf next = valued next
parting s (part.Result e es) next = resulting s (e ∷ es) next
parting s part.Record next = main [] t.Member next
parting s part.PackedRecord next = main [] t.Member next
parting s (part.Guard e g) next = guarding s e g next
