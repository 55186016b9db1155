-- The typed tree of a unit: each line, by what stands in scope there, with what it is judged to be.
use Rattle.std.specs.Prelude.{Bool, true, false, List, [], ◌∷◌}
use Rattle.occ_forms.specs.declared.tree.Form.{Form}
use Rattle.occ_forms.specs.declared.tree.Form.TheVariants as form
use Rattle.occ_scope.specs.Visible.{nothing, with_all}
use Rattle.occ_scope.specs.declared.scope.Scope.{Scope}
use Rattle.occ_project.specs.declared.expanded.ExpandedBody.{ExpandedBody}
use Rattle.occ_project.specs.declared.expanded.ExpandedBody.TheVariants as body
use Rattle.occ_project.specs.declared.expanded.ExpandedLine.{ExpandedLine}
use Rattle.occ_project.specs.Locations.{location_of}
use Rattle.occ_tree.specs.Forest.{Forest, Empty, Tree}
use Rattle.occ_typing_lines.specs.Lines.{Judged, body_of}
use Rattle.occ_typing_lines.specs.Judging.{judged}
use Rattle.occ_typing.specs.Units.{after_line}
use Rattle.occ_typing_lines.specs.declared.parent.Parent.{Parent}
use Rattle.occ_typing_lines.specs.declared.parent.Role.{Role}
use Rattle.occ_typing_lines.specs.declared.parent.Role.TheVariants as role
use Rattle.occ_typing.specs.declared.tree.TypedLine.{TypedLine, roll-TypedLine}
use Rattle.occ_typing_lines.specs.declared.using.Import.{Import}

-- ---- processes: actions, constructs and instances that stand where processes may. A choice under IF is none, though it may
-- be an IF itself; no alternative of an ALT is one, though it may be an input or an ALT itself; and no option or variant is

abbrev pub is_process_form : Form → Bool
is_process_form (form.Specified x) = false
is_process_form form.Close = false
is_process_form (form.Action a) = true
is_process_form (form.Construct c) = true
is_process_form (form.Part q) = false
is_process_form (form.Expressions e es) = true
is_process_form (form.Tagged name d ds) = false

abbrev pub is_process_body : ExpandedBody → Bool
is_process_body (body.Form f) = is_process_form f
is_process_body (body.Uses unit) = false
is_process_body (body.Fault code) = false

abbrev pub is_process_in : Role → ExpandedBody → Bool
is_process_in role.Process b = is_process_body b
is_process_in role.Conditional b = false
is_process_in role.Alternation b = false
is_process_in (role.Selection c) b = false
is_process_in (role.Variants x) b = false
is_process_in (role.Function wanted) b = is_process_body b
is_process_in role.Members b = false

-- a line whose parent says this of it
unfoldable pub is_process : Parent → ExpandedBody → Bool
is_process p b = is_process_in p.role b

-- ---- lines

-- line l, which is judged so, with these lines under it
abbrev pub typed_line : Parent → ExpandedLine → Judged → List TypedLine → TypedLine
typed_line p l x under =
    roll-TypedLine record {
      place = location_of l;
      is_process = is_process p l.body;
      form = x.line.form;
      enters = x.line.enters;
      adds = x.line.adds;
      under = under;
    }

-- of lines of which their parent says this; s stands in scope at the first of them, and outer at the next item
abbrev pub typed_lines : List Import → Parent → Scope → Scope → Forest → List TypedLine
typed_lines is p outer s Empty = []
typed_lines is p outer s (Tree l under following) =
    let x = judged is s l.body under p in
    let inner = with_all s x.line.enters in
    typed_line p l x (typed_lines is x.line.parent inner inner under) ∷ typed_lines is x.line.next outer (after_line outer s x.line.adds) following

-- the first of them
abbrev pub line_with : List Import → Parent → Scope → ExpandedLine → Forest → TypedLine
line_with is p s l under =
    let x = judged is s l.body under p in
    let inner = with_all s x.line.enters in
    typed_line p l x (typed_lines is x.line.parent inner inner under)

-- of a unit: nothing is in scope at the first of its lines
abbrev pub typed_unit : List Import → Forest → List TypedLine
typed_unit is f = typed_lines is (body_of role.Process) nothing nothing f
