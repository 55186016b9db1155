-- What a line uses, without the lines under it.
use Rattle.std.specs.Prelude.{Option, Some, None, List, [], ◌∷◌, ◌++◌}
use Rattle.occ_usage_values.specs.Calls.{made}
use Rattle.occ_usage_values.specs.Views.{Uses, actual_views, call_uses, element_view, expr_view}
use Rattle.occ_typing_statements.specs.declared.replicator_tree.TypedReplicator.{TypedReplicator}
use Rattle.occ_typing_rules.specs.declared.expr.TypedElement.{TypedElement}
use Rattle.occ_typing_rules.specs.declared.expr.TypedExpr.{TypedExpr}
use Rattle.occ_typing_statements.specs.declared.exchange_tree.TypedInput.{TypedInput}
use Rattle.occ_typing_statements.specs.declared.exchange_tree.TypedInput.TheVariants as input
use Rattle.occ_typing_statements.specs.declared.exchange_tree.TypedOutput.{TypedOutput}
use Rattle.occ_typing_statements.specs.declared.exchange_tree.TypedOutput.TheVariants as output
use Rattle.occ_typing_statements.specs.declared.exchange_tree.TypedTarget.{TypedTarget}
use Rattle.occ_typing_statements.specs.declared.exchange_tree.TypedTarget.TheVariants as target
use Rattle.occ_typing_lines.specs.declared.tree.TypedForm.{TypedForm}
use Rattle.occ_typing_lines.specs.declared.tree.TypedForm.TheVariants as form
use Rattle.occ_typing_lines.specs.declared.tree.TypedGuard.{TypedGuard}
use Rattle.occ_typing_lines.specs.declared.tree.TypedGuard.TheVariants as guard
use Rattle.occ_types.specs.declared.interface.UseKind.{UseKind}
use Rattle.occ_types.specs.declared.interface.UseKind.TheVariants as kind

-- an element, with its subscripts and bounds
abbrev pub used : UseKind → TypedElement → Uses
used k el env line = (element_view el).uses env line ++ made line k ((element_view el).place env)

abbrev pub each_uses : List TypedExpr → Uses
each_uses [] env line = []
each_uses (e ∷ es) env line = (expr_view e).uses env line ++ each_uses es env line

abbrev pub written : List TypedElement → Uses
written [] env line = []
written (el ∷ els) env line = used kind.Write el env line ++ written els env line

abbrev pub target_uses : TypedTarget → Uses
target_uses (target.Single el) env line = used kind.Write el env line
target_uses (target.Counted count el) env line = used kind.Write count env line ++ used kind.Write el env line

abbrev pub targets_uses : List TypedTarget → Uses
targets_uses [] env line = []
targets_uses (t ∷ ts) env line = target_uses t env line ++ targets_uses ts env line

abbrev pub output_uses : TypedOutput → Uses
output_uses (output.Value e) env line = (expr_view e).uses env line
output_uses (output.Counted count e) env line = (expr_view count).uses env line ++ (expr_view e).uses env line
output_uses (output.Tag place name) env line = []

abbrev pub outputs_uses : List TypedOutput → Uses
outputs_uses [] env line = []
outputs_uses (o ∷ os) env line = output_uses o env line ++ outputs_uses os env line

-- a timer is not used: it has no place
abbrev pub input_uses : TypedInput → Uses
input_uses (input.Plain el ts) env line = used kind.Input el env line ++ targets_uses ts env line
input_uses (input.Time el t) env line = used kind.Input el env line ++ used kind.Write t env line
input_uses (input.After el e) env line = used kind.Input el env line ++ (expr_view e).uses env line
input_uses (input.Tagged el place name ts) env line = used kind.Input el env line ++ targets_uses ts env line

abbrev pub guard_uses : TypedGuard → Uses
guard_uses guard.Skip env line = []
guard_uses (guard.Input i) env line = input_uses i env line
guard_uses (guard.CaseInput el) env line = used kind.Input el env line

abbrev pub replicator_uses : Option TypedReplicator → Uses
replicator_uses None env line = []
replicator_uses (Some r) env line = (expr_view r.base).uses env line ++ (expr_view r.count).uses env line

-- Options, sizes and types are constants and use nothing. An abbreviation uses nothing of its element where it is specified.
abbrev pub form_uses : TypedForm → Uses
form_uses form.Declaration env line = []
form_uses (form.Abbreviation el) env line = (element_view el).uses env line
form_uses (form.Retyped el) env line = (element_view el).uses env line
form_uses (form.Value e) env line = (expr_view e).uses env line
form_uses (form.RetypedValue e) env line = (expr_view e).uses env line
form_uses (form.OneLineFunction formals results) env line = []
form_uses form.DataType env line = []
form_uses form.Protocol env line = []
form_uses (form.Uses interfaces) env line = []
form_uses form.ProcedureHead env line = []
form_uses form.FunctionHead env line = []
form_uses form.RecordHead env line = []
form_uses form.ProtocolHead env line = []
form_uses form.Member env line = []
form_uses form.Close env line = []
form_uses form.Skip env line = []
form_uses form.Stop env line = []
form_uses (form.Assignment els es) env line = each_uses es env line ++ written els env line
form_uses (form.Output el os) env line = used kind.Output el env line ++ outputs_uses os env line
form_uses (form.Input i) env line = input_uses i env line
form_uses (form.Instance callee xs) env line = call_uses callee.spec (actual_views xs) env line
form_uses (form.Block b r) env line = replicator_uses r env line
form_uses (form.While e) env line = (expr_view e).uses env line
form_uses (form.Selection e) env line = (expr_view e).uses env line
form_uses (form.CaseInput el) env line = used kind.Input el env line
form_uses (form.Condition e) env line = (expr_view e).uses env line
form_uses (form.Options es) env line = []
form_uses form.Otherwise env line = []
form_uses (form.Guard e g) env line = (expr_view e).uses env line ++ guard_uses g env line
form_uses (form.Variant place name ts) env line = targets_uses ts env line
form_uses form.ValueOf env line = []
form_uses (form.Results es) env line = each_uses es env line
form_uses form.Unknown env line = []
