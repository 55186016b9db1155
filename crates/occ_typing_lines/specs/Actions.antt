-- Processes of one line.
use Rattle.std.specs.Prelude.{List, [], ◌∷◌}
use Rattle.occ_typing_statements.specs.StatementTrees.{assignment_tree}
use Rattle.occ_typing_statements.specs.declared.statement.TypedAssignment.{TypedAssignment}
use Rattle.occ_typing_lines.specs.declared.tree.TypedForm.{TypedForm}
use Rattle.occ_typing_lines.specs.declared.tree.TypedForm.TheVariants as t
use Rattle.occ_forms.specs.declared.tree.Action.{Action}
use Rattle.occ_forms.specs.declared.tree.Action.TheVariants as action
use Rattle.occ_scope.specs.declared.scope.Scope.{Scope}
use Rattle.occ_base.specs.declared.fault.Fault.{Fault}
use Rattle.occ_typing_statements.specs.Inputs.{input_faults, input_tree}
use Rattle.occ_typing_statements.specs.Sending.{output_faults, output_tree}
use Rattle.occ_typing_statements.specs.declared.sending.TypedSending.{TypedSending}
use Rattle.occ_typing_statements.specs.Statements.{assignment}
use Rattle.occ_typing_lines.specs.Lines.{made}

abbrev pub action_faults : Scope → Action → List Fault
action_faults s action.Skip = []
action_faults s action.Stop = []
action_faults s (action.Assignment el els e es) = assignment s (el ∷ els) (e ∷ es)
action_faults s (action.Output el item items) = output_faults s el item items
action_faults s (action.Input i) = input_faults s i

abbrev pub assigning : TypedAssignment → TypedForm
assigning x = t.Assignment x.targets x.values

abbrev pub sending : TypedSending → TypedForm
sending x = t.Output x.channel x.outputs

abbrev pub action_form : Scope → Action → TypedForm
action_form s action.Skip = t.Skip
action_form s action.Stop = t.Stop
action_form s (action.Assignment el els e es) = made assigning (assignment_tree s (el ∷ els) (e ∷ es))
action_form s (action.Output el item items) = made sending (output_tree s el item items)
action_form s (action.Input i) = made t.Input (input_tree s i)
