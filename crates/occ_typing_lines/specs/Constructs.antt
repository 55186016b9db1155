-- Constructs: what their own lines report, and what they say of the lines under them.
use Rattle.std.specs.Prelude.{false, Option, Some, None, []}
use Rattle.occ_expr.specs.Trees.{element_tree, int_tree}
use Rattle.occ_forms.specs.declared.tree.Construct.{Construct}
use Rattle.occ_forms.specs.declared.tree.Construct.TheVariants as construct
use Rattle.occ_forms.specs.declared.tree.ConstructKind.{ConstructKind}
use Rattle.occ_forms.specs.declared.tree.ConstructKind.TheVariants as word
use Rattle.occ_forms.specs.declared.tree.Replicator.{Replicator}
use Rattle.occ_scope.specs.declared.scope.Scope.{Scope}
use Rattle.occ_typing_operands.specs.Settling.{Finding}
use Rattle.occ_typing_operands.specs.declared.kind.Kind.{Kind}
use Rattle.occ_typing_statements.specs.Replicating.{counting, enters, faults, tree}
use Rattle.occ_typing_statements.specs.declared.replicating.Replicating.{Replicating}
use Rattle.occ_typing_statements.specs.declared.replicating.Replicating.TheVariants as by
use Rattle.occ_typing_statements.specs.declared.replicator_tree.TypedReplicator.{TypedReplicator}
use Rattle.occ_typing_statements.specs.Inputs.{case_faults}
use Rattle.occ_typing_statements.specs.Variants.{begun}
use Rattle.occ_typing_statements.specs.Statements.{condition, selector}
use Rattle.occ_typing_rules.specs.declared.expr.TypedExpr.{TypedExpr}
use Rattle.occ_typing_statements.specs.StatementTrees.{condition_tree}
use Rattle.occ_typing_lines.specs.Lines.{Own, made, over, processes_in, with_role}
use Rattle.occ_typing_lines.specs.declared.tree.BlockKind.{BlockKind}
use Rattle.occ_typing_lines.specs.declared.tree.BlockKind.TheVariants as block
use Rattle.occ_typing_lines.specs.declared.tree.TypedForm.{TypedForm}
use Rattle.occ_typing_lines.specs.declared.tree.TypedForm.TheVariants as t
use Rattle.occ_typing_lines.specs.declared.parent.Parent.{Parent}
use Rattle.occ_typing_lines.specs.declared.parent.Role.{Role}
use Rattle.occ_typing_lines.specs.declared.parent.Role.TheVariants as role

-- ---- what each word says of the lines under it

abbrev pub role_of : ConstructKind → Role
role_of word.Sequence = role.Process
role_of word.Parallel = role.Process
role_of word.PriParallel = role.Process
role_of word.Conditional = role.Conditional
role_of word.Alternation = role.Alternation
role_of word.PriAlternation = role.Alternation

abbrev pub block_of : ConstructKind → BlockKind
block_of word.Sequence = block.Sequence
block_of word.Parallel = block.Parallel
block_of word.PriParallel = block.Parallel
block_of word.Conditional = block.Conditional
block_of word.Alternation = block.Alternation
block_of word.PriAlternation = block.Alternation

-- PAR and PRI PAR ask for more of a replicator than the others
abbrev pub replicating_of : ConstructKind → Replicating
replicating_of word.Sequence = by.Other
replicating_of word.Parallel = by.Parallel
replicating_of word.PriParallel = by.Parallel
replicating_of word.Conditional = by.Other
replicating_of word.Alternation = by.Other
replicating_of word.PriAlternation = by.Other

-- ---- with a replicator or without one

abbrev pub replicated : BlockKind → TypedReplicator → TypedForm
replicated kind r = t.Block kind (Some r)

-- the lines under it stand as often as the replicator says
abbrev pub under_replicator : Scope → ConstructKind → Replicator → Parent → Parent
under_replicator s w r next = record { role = role_of w; rounds = (counting s next.rounds r).rounds }

abbrev pub replicable : Scope → ConstructKind → Option Replicator → Parent → Own
replicable s w None next = over [] (with_role (role_of w) next) [] (t.Block (block_of w) None) next
replicable s w (Some r) next =
    over
    (faults s (replicating_of w) next.rounds r)
    (under_replicator s w r next)
    (enters s (replicating_of w) next.rounds r)
    (made (replicated (block_of w)) (tree s next.rounds r))
    next

-- ---- WHILE, CASE, and the first line of a case input

-- no option stands before the first
abbrev pub choosing : Kind → Role
choosing kind = role.Selection (record { selector = kind; numbers = record { keys = [] }; otherwise = false })

abbrev pub selecting : Finding → Option TypedExpr → Parent → Own
selecting x tree next = over x.faults (with_role (choosing x.kind) next) [] (made t.Selection tree) next

abbrev pub constructing : Scope → Construct → Parent → Own
constructing s (construct.Replicable w r) next = replicable s w r next
constructing s (construct.While e) next = over (condition s e) (processes_in next) [] (made t.While (condition_tree s e)) next
constructing s (construct.Case e) next = selecting (selector s e) (int_tree s e) next
constructing s (construct.CaseInput el) next = over (case_faults s el) (with_role (role.Variants (begun s el)) next) [] (made t.CaseInput (element_tree s el)) next
