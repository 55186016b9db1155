-- What a line of a unit is for the lines round it, and what is reported of it, by what stands in scope there.
use Rattle.std.specs.Prelude.{Bool, true, false, List, [], ◌∷◌, if◌then◌else◌}
use Rattle.occ_forms.specs.declared.tree.Form.{Form}
use Rattle.occ_forms.specs.declared.tree.Form.TheVariants as form
use Rattle.occ_scope.specs.declared.scope.Scope.{Scope}
use Rattle.occ_project.specs.declared.expanded.ExpandedBody.{ExpandedBody}
use Rattle.occ_project.specs.declared.expanded.ExpandedBody.TheVariants as body
use Rattle.occ_forms.specs.declared.specification_tree.Specified.{Specified}
use Rattle.occ_forms.specs.declared.specification_tree.Specified.TheVariants as specified
use Rattle.occ_tree.specs.Forest.{Forest}
use Rattle.occ_typing_lines.specs.Actions.{action_faults, action_form}
use Rattle.occ_typing_lines.specs.Constructs.{constructing}
use Rattle.occ_typing_lines.specs.Lines.{Judged, alone, main, over, specifying, with_role}
use Rattle.occ_typing_lines.specs.Parts.{expressing, parting, tagged}
use Rattle.occ_typing_lines.specs.Specifying.{heading, one_line}
use Rattle.occ_typing_lines.specs.Using.{imported, interfaces_of}
use Rattle.occ_typing_lines.specs.declared.tree.TypedForm.TheVariants as t
use Rattle.occ_typing_lines.specs.declared.using.Import.{Import}
use Rattle.occ_typing_lines.specs.declared.parent.Parent.{Parent}
use Rattle.occ_typing_lines.specs.declared.parent.Role.{Role}
use Rattle.occ_typing_lines.specs.declared.parent.Role.TheVariants as role

abbrev pub specifying_line : Scope → Specified → Forest → Parent → Judged
specifying_line s (specified.Line x) under next = alone (one_line s x next)
specifying_line s (specified.Head h) under next = heading s h under next

abbrev pub form_line : Scope → Form → Forest → Parent → Judged
form_line s (form.Specified x) under next = specifying_line s x under next
form_line s form.Close under next = alone (specifying [] [] t.Close next)
form_line s (form.Action a) under next = alone (main (action_faults s a) (action_form s a) next)
form_line s (form.Construct c) under next = alone (constructing s c next)
form_line s (form.Part q) under next = alone (parting s q next)
form_line s (form.Expressions e es) under next = alone (expressing s e es next)
form_line s (form.Tagged name d ds) under next = alone (tagged s name (d ∷ ds) next)

abbrev pub line : List Import → Scope → ExpandedBody → Forest → Parent → Judged
line is s (body.Form f) under next = form_line s f under next
line is s (body.Uses units) under next = alone (specifying [] (imported (interfaces_of units is)) (t.Uses (interfaces_of units is)) next)
line is s (body.Fault code) under next = alone (main [] t.Unknown next)

-- the lines of a record and of a protocol are reported with its head
abbrev pub is_reported_with_head : Role → Bool
is_reported_with_head role.Process = false
is_reported_with_head role.Conditional = false
is_reported_with_head role.Alternation = false
is_reported_with_head (role.Selection c) = false
is_reported_with_head (role.Variants x) = false
is_reported_with_head (role.Function wanted) = false
is_reported_with_head role.Members = true

-- such a line, which stands over others of its kind, if over any
abbrev pub member : Parent → Judged
member p = alone (over [] (with_role role.Members p) [] t.Member p)

-- a line with these under it, whose parent says this of it, where units are used that export this
unfoldable pub judged : List Import → Scope → ExpandedBody → Forest → Parent → Judged
judged is s b under p = if is_reported_with_head p.role then member p else line is s b under p
