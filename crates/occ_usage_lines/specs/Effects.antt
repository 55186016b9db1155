-- Whether a line has an effect: it is an input, an output, a PAR or an ALT, or it calls a body with one.
use Rattle.std.specs.Prelude.{Bool, true, false, ◌||◌, Option, Some, None, List, [], ◌∷◌}
use Rattle.occ_usage_values.specs.Views.{Effects, actual_views, call_effect, element_view, expr_view}
use Rattle.occ_typing_statements.specs.declared.replicator_tree.TypedReplicator.{TypedReplicator}
use Rattle.occ_typing_rules.specs.declared.expr.TypedElement.{TypedElement}
use Rattle.occ_typing_rules.specs.declared.expr.TypedExpr.{TypedExpr}
use Rattle.occ_typing_statements.specs.declared.exchange_tree.TypedTarget.{TypedTarget}
use Rattle.occ_typing_statements.specs.declared.exchange_tree.TypedTarget.TheVariants as target
use Rattle.occ_typing_lines.specs.declared.tree.BlockKind.{BlockKind}
use Rattle.occ_typing_lines.specs.declared.tree.BlockKind.TheVariants as block
use Rattle.occ_typing_lines.specs.declared.tree.TypedForm.{TypedForm}
use Rattle.occ_typing_lines.specs.declared.tree.TypedForm.TheVariants as form
use Rattle.occ_typing_lines.specs.declared.tree.TypedGuard.{TypedGuard}
use Rattle.occ_typing_lines.specs.declared.tree.TypedGuard.TheVariants as guard

abbrev pub each_effect : List TypedExpr → Effects
each_effect [] env = false
each_effect (e ∷ es) env = (expr_view e).effect env || each_effect es env

abbrev pub elements_effect : List TypedElement → Effects
elements_effect [] env = false
elements_effect (el ∷ els) env = (element_view el).effect env || elements_effect els env

abbrev pub target_effect : TypedTarget → Effects
target_effect (target.Single el) env = (element_view el).effect env
target_effect (target.Counted count el) env = (element_view count).effect env || (element_view el).effect env

abbrev pub targets_effect : List TypedTarget → Effects
targets_effect [] env = false
targets_effect (t ∷ ts) env = target_effect t env || targets_effect ts env

abbrev pub replicator_effect : Option TypedReplicator → Effects
replicator_effect None env = false
replicator_effect (Some r) env = (expr_view r.base).effect env || (expr_view r.count).effect env

abbrev pub block_communicates : BlockKind → Bool
block_communicates block.Sequence = false
block_communicates block.Parallel = true
block_communicates block.Conditional = false
block_communicates block.Alternation = true

abbrev pub guard_communicates : TypedGuard → Bool
guard_communicates guard.Skip = false
guard_communicates (guard.Input i) = true
guard_communicates (guard.CaseInput el) = true

-- an input, an output, a PAR or an ALT
abbrev pub communicates : TypedForm → Bool
communicates (form.Output el os) = true
communicates (form.Input i) = true
communicates (form.CaseInput el) = true
communicates (form.Block b r) = block_communicates b
communicates (form.Guard e g) = guard_communicates g
communicates other = false

-- A call that is evaluated at a line. Those of options, sizes and types are none: they are constants. Those of an input and an
-- output are not looked at: the line has an effect without them.
abbrev pub calls_effect : TypedForm → Effects
calls_effect (form.Abbreviation el) env = (element_view el).effect env
calls_effect (form.Retyped el) env = (element_view el).effect env
calls_effect (form.Value e) env = (expr_view e).effect env
calls_effect (form.RetypedValue e) env = (expr_view e).effect env
calls_effect (form.Assignment els es) env = each_effect es env || elements_effect els env
calls_effect (form.Instance callee xs) env = call_effect callee.spec (actual_views xs) env
calls_effect (form.Block b r) env = replicator_effect r env
calls_effect (form.While e) env = (expr_view e).effect env
calls_effect (form.Selection e) env = (expr_view e).effect env
calls_effect (form.Condition e) env = (expr_view e).effect env
calls_effect (form.Guard e g) env = (expr_view e).effect env
calls_effect (form.Variant place name ts) env = targets_effect ts env
calls_effect (form.Results es) env = each_effect es env
calls_effect other env = false

abbrev pub form_effect : TypedForm → Effects
form_effect f env = communicates f || calls_effect f env
