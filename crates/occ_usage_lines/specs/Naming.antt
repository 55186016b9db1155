-- Whether what a line uses or specifies may depend on the value of a specification. Lines under it are not asked. It may if a
-- subscript or a bound of an element names the specification. So it may if the line specifies a name for what names it. Options,
-- sizes and types are constants.
use Rattle.std.specs.Prelude.{ℕ, Bool, false, ◌||◌, Option, Some, None, List, [], ◌∷◌}
use Rattle.occ_usage_values.specs.Naming.{actuals_depend, element_depends, element_names, expr_depends, expr_names, exprs_depend}
use Rattle.occ_typing_statements.specs.declared.replicator_tree.TypedReplicator.{TypedReplicator}
use Rattle.occ_typing_rules.specs.declared.expr.TypedElement.{TypedElement}
use Rattle.occ_typing_statements.specs.declared.exchange_tree.TypedInput.{TypedInput}
use Rattle.occ_typing_statements.specs.declared.exchange_tree.TypedInput.TheVariants as input
use Rattle.occ_typing_statements.specs.declared.exchange_tree.TypedOutput.{TypedOutput}
use Rattle.occ_typing_statements.specs.declared.exchange_tree.TypedOutput.TheVariants as output
use Rattle.occ_typing_statements.specs.declared.exchange_tree.TypedTarget.{TypedTarget}
use Rattle.occ_typing_statements.specs.declared.exchange_tree.TypedTarget.TheVariants as target
use Rattle.occ_typing_lines.specs.declared.tree.TypedForm.{TypedForm}
use Rattle.occ_typing_lines.specs.declared.tree.TypedForm.TheVariants as form
use Rattle.occ_typing_lines.specs.declared.tree.TypedGuard.{TypedGuard}
use Rattle.occ_typing_lines.specs.declared.tree.TypedGuard.TheVariants as guard

abbrev pub elements_depend : ℕ → List TypedElement → Bool
elements_depend n [] = false
elements_depend n (el ∷ els) = element_depends n el || elements_depend n els

abbrev pub target_depends : ℕ → TypedTarget → Bool
target_depends n (target.Single el) = element_depends n el
target_depends n (target.Counted count el) = element_depends n count || element_depends n el

abbrev pub targets_depend : ℕ → List TypedTarget → Bool
targets_depend n [] = false
targets_depend n (t ∷ ts) = target_depends n t || targets_depend n ts

abbrev pub output_depends : ℕ → TypedOutput → Bool
output_depends n (output.Value e) = expr_depends n e
output_depends n (output.Counted count e) = expr_depends n count || expr_depends n e
output_depends n (output.Tag place name) = false

abbrev pub outputs_depend : ℕ → List TypedOutput → Bool
outputs_depend n [] = false
outputs_depend n (o ∷ os) = output_depends n o || outputs_depend n os

abbrev pub input_depends : ℕ → TypedInput → Bool
input_depends n (input.Plain el ts) = element_depends n el || targets_depend n ts
input_depends n (input.Time el t) = element_depends n el || element_depends n t
input_depends n (input.After el e) = element_depends n el || expr_depends n e
input_depends n (input.Tagged el place name ts) = element_depends n el || targets_depend n ts

abbrev pub guard_depends : ℕ → TypedGuard → Bool
guard_depends n guard.Skip = false
guard_depends n (guard.Input i) = input_depends n i
guard_depends n (guard.CaseInput el) = element_depends n el

abbrev pub replicator_depends : ℕ → Option TypedReplicator → Bool
replicator_depends n None = false
replicator_depends n (Some r) = expr_depends n r.base || expr_depends n r.count

abbrev pub form_depends : ℕ → TypedForm → Bool
form_depends n (form.Abbreviation el) = element_names n el
form_depends n (form.Retyped el) = element_names n el
form_depends n (form.Value e) = expr_names n e
form_depends n (form.RetypedValue e) = expr_names n e
form_depends n (form.OneLineFunction formals results) = exprs_depend n results
form_depends n (form.Assignment els es) = exprs_depend n es || elements_depend n els
form_depends n (form.Output el os) = element_depends n el || outputs_depend n os
form_depends n (form.Input i) = input_depends n i
form_depends n (form.Instance callee xs) = actuals_depend n xs
form_depends n (form.Block b r) = replicator_depends n r
form_depends n (form.While e) = expr_depends n e
form_depends n (form.Selection e) = expr_depends n e
form_depends n (form.CaseInput el) = element_depends n el
form_depends n (form.Condition e) = expr_depends n e
form_depends n (form.Guard e g) = expr_depends n e || guard_depends n g
form_depends n (form.Variant place name ts) = targets_depend n ts
form_depends n (form.Results es) = exprs_depend n es
form_depends n other = false
