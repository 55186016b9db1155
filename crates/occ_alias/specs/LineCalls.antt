-- The calls that are evaluated at a line, without those of the lines under it. Options, sizes and types are constants and call
-- nothing.
use Rattle.std.specs.Prelude.{Option, Some, None, List, [], ◌∷◌, ◌++◌}
use Rattle.occ_usage_values.specs.Views.{Calls, actual_views, call_calls, element_view, expr_view}
use Rattle.occ_typing_statements.specs.declared.replicator_tree.TypedReplicator.{TypedReplicator}
use Rattle.occ_typing_rules.specs.declared.expr.TypedElement.{TypedElement}
use Rattle.occ_typing_rules.specs.declared.expr.TypedExpr.{TypedExpr}
use Rattle.occ_typing_statements.specs.declared.exchange_tree.TypedInput.{TypedInput}
use Rattle.occ_typing_statements.specs.declared.exchange_tree.TypedInput.TheVariants as input
use Rattle.occ_typing_statements.specs.declared.exchange_tree.TypedOutput.{TypedOutput}
use Rattle.occ_typing_statements.specs.declared.exchange_tree.TypedOutput.TheVariants as output
use Rattle.occ_typing_statements.specs.declared.exchange_tree.TypedTarget.{TypedTarget}
use Rattle.occ_typing_statements.specs.declared.exchange_tree.TypedTarget.TheVariants as target
use Rattle.occ_usage_lines.specs.TypedForm.{TypedForm}
use Rattle.occ_usage_lines.specs.TypedForm.TheVariants as form
use Rattle.occ_usage_lines.specs.TypedGuard.{TypedGuard}
use Rattle.occ_usage_lines.specs.TypedGuard.TheVariants as guard

abbrev pub each_calls : List TypedExpr → Calls
each_calls [] env line = []
each_calls (e ∷ es) env line = (expr_view e).calls env line ++ each_calls es env line

abbrev pub elements_calls : List TypedElement → Calls
elements_calls [] env line = []
elements_calls (el ∷ els) env line = (element_view el).calls env line ++ elements_calls els env line

abbrev pub target_calls : TypedTarget → Calls
target_calls (target.Single el) env line = (element_view el).calls env line
target_calls (target.Counted count el) env line = (element_view count).calls env line ++ (element_view el).calls env line

abbrev pub targets_calls : List TypedTarget → Calls
targets_calls [] env line = []
targets_calls (t ∷ ts) env line = target_calls t env line ++ targets_calls ts env line

abbrev pub output_calls : TypedOutput → Calls
output_calls (output.Value e) env line = (expr_view e).calls env line
output_calls (output.Counted count e) env line = (expr_view count).calls env line ++ (expr_view e).calls env line
output_calls (output.Tag place name) env line = []

abbrev pub outputs_calls : List TypedOutput → Calls
outputs_calls [] env line = []
outputs_calls (o ∷ os) env line = output_calls o env line ++ outputs_calls os env line

abbrev pub input_calls : TypedInput → Calls
input_calls (input.Plain el ts) env line = (element_view el).calls env line ++ targets_calls ts env line
input_calls (input.Time el t) env line = (element_view el).calls env line ++ (element_view t).calls env line
input_calls (input.After el e) env line = (element_view el).calls env line ++ (expr_view e).calls env line
input_calls (input.Tagged el place name ts) env line = (element_view el).calls env line ++ targets_calls ts env line

abbrev pub guard_calls : TypedGuard → Calls
guard_calls guard.Skip env line = []
guard_calls (guard.Input i) env line = input_calls i env line
guard_calls (guard.CaseInput el) env line = (element_view el).calls env line

abbrev pub replicator_calls : Option TypedReplicator → Calls
replicator_calls None env line = []
replicator_calls (Some r) env line = (expr_view r.base).calls env line ++ (expr_view r.count).calls env line

abbrev pub form_calls : TypedForm → Calls
form_calls (form.Abbreviation el) env line = (element_view el).calls env line
form_calls (form.Retyped el) env line = (element_view el).calls env line
form_calls (form.Value e) env line = (expr_view e).calls env line
form_calls (form.RetypedValue e) env line = (expr_view e).calls env line
form_calls (form.Assignment els es) env line = each_calls es env line ++ elements_calls els env line
form_calls (form.Output el os) env line = (element_view el).calls env line ++ outputs_calls os env line
form_calls (form.Input i) env line = input_calls i env line
form_calls (form.Instance callee xs) env line = call_calls callee.spec (actual_views xs) env line
form_calls (form.Block b r) env line = replicator_calls r env line
form_calls (form.While e) env line = (expr_view e).calls env line
form_calls (form.Selection e) env line = (expr_view e).calls env line
form_calls (form.CaseInput el) env line = (element_view el).calls env line
form_calls (form.Condition e) env line = (expr_view e).calls env line
form_calls (form.Guard e g) env line = (expr_view e).calls env line ++ guard_calls g env line
form_calls (form.Variant place name ts) env line = targets_calls ts env line
form_calls (form.Results es) env line = each_calls es env line
form_calls other env line = []
