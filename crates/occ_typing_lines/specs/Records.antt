-- The fields of a record, line by line.
use Rattle.std.specs.Prelude.{ℕ, List, [], ◌∷◌, ◌++◌}
use Rattle.occ_base.specs.declared.diag.Diag.{Diag}
use Rattle.occ_typing_specifications.specs.Fields.{fields}
use Rattle.occ_forms_expressions.specs.declared.tree.TypeForm.{TypeForm}
use Rattle.occ_forms.specs.declared.tree.Form.{Form}
use Rattle.occ_forms.specs.declared.tree.Form.TheVariants as form
use Rattle.occ_forms.specs.declared.tree.PartForm.{PartForm}
use Rattle.occ_forms.specs.declared.tree.PartForm.TheVariants as part
use Rattle.occ_scope.specs.declared.scope.Scope.{Scope}
use Rattle.occ_base.specs.declared.fault.Fault.{Fault}
use Rattle.occ_project.specs.declared.expanded.ExpandedBody.{ExpandedBody}
use Rattle.occ_project.specs.declared.expanded.ExpandedBody.TheVariants as body
use Rattle.occ_forms.specs.declared.specification_tree.Specification.{Specification}
use Rattle.occ_forms.specs.declared.specification_tree.Specification.TheVariants as specification
use Rattle.occ_forms.specs.declared.specification_tree.Specified.{Specified}
use Rattle.occ_forms.specs.declared.specification_tree.Specified.TheVariants as specified
use Rattle.occ_tree.specs.Forest.{Forest, Empty, Tree}
use Rattle.occ_types.specs.declared.types.Field.{Field}
use Rattle.occ_types.specs.declared.types.Packing.{Packing}
use Rattle.occ_types.specs.declared.types.Packing.TheVariants as packing
use Rattle.occ_typing_lines.specs.Placed.{placed}

-- the faults of a line, its fields and their names
pub record FieldLine : Type 0 where
  pub faults : List Fault
  pub fields : List Field
  pub names : List (List ℕ)

abbrev pub no_fields : FieldLine
no_fields = record { faults = []; fields = []; names = [] }

abbrev pub declaring : Scope → List (List ℕ) → TypeForm → List (List ℕ) → FieldLine
declaring s before of names =
    let x = fields s before of names in
    record { faults = x.faults; fields = x.fields; names = names }

abbrev pub specification_fields : Scope → List (List ℕ) → Specification → FieldLine
specification_fields s before (specification.Declaration of first more) = declaring s before of (first ∷ more)
specification_fields s before (specification.Abbreviation of name el) = no_fields
specification_fields s before (specification.Value of name e) = no_fields
specification_fields s before (specification.Retyped recast of name el) = no_fields
specification_fields s before (specification.RetypedValue recast of name e) = no_fields
specification_fields s before (specification.Protocol name item items) = no_fields
specification_fields s before (specification.DataType name of) = no_fields
specification_fields s before (specification.Function head e es) = no_fields

abbrev pub specified_fields : Scope → List (List ℕ) → Specified → FieldLine
specified_fields s before (specified.Line x) = specification_fields s before x
specified_fields s before (specified.Head h) = no_fields

abbrev pub form_fields : Scope → List (List ℕ) → Form → FieldLine
form_fields s before (form.Specified x) = specified_fields s before x
form_fields s before form.Close = no_fields
form_fields s before (form.Action a) = no_fields
form_fields s before (form.Construct c) = no_fields
form_fields s before (form.Part q) = no_fields
form_fields s before (form.Expressions e es) = no_fields
form_fields s before (form.Tagged name d ds) = no_fields

-- of a line after others of the record, which have these names
abbrev pub body_fields : Scope → List (List ℕ) → ExpandedBody → FieldLine
body_fields s before (body.Form f) = form_fields s before f
body_fields s before (body.Uses unit) = no_fields
body_fields s before (body.Fault code) = no_fields

-- the diagnostics of the lines of a record, and its fields
pub record Fields : Type 0 where
  pub diags : List Diag
  pub fields : List Field

abbrev pub field_lines : Scope → List (List ℕ) → Forest → Fields
field_lines s before Empty = record { diags = []; fields = [] }
field_lines s before (Tree l under following) =
    let x = body_fields s before l.body in
    let y = field_lines s (before ++ x.names) following in
    record { diags = placed l x.faults ++ y.diags; fields = x.fields ++ y.fields }

abbrev pub part_packing : PartForm → Packing
part_packing part.Case = packing.Plain
part_packing part.Else = packing.Plain
part_packing part.ValueOf = packing.Plain
part_packing (part.Result e es) = packing.Plain
part_packing part.Record = packing.Plain
part_packing part.PackedRecord = packing.Packed
part_packing (part.Guard e g) = packing.Plain

abbrev pub form_packing : Form → Packing
form_packing (form.Specified x) = packing.Plain
form_packing form.Close = packing.Plain
form_packing (form.Action a) = packing.Plain
form_packing (form.Construct c) = packing.Plain
form_packing (form.Part q) = part_packing q
form_packing (form.Expressions e es) = packing.Plain
form_packing (form.Tagged name d ds) = packing.Plain

abbrev pub body_packing : ExpandedBody → Packing
body_packing (body.Form f) = form_packing f
body_packing (body.Uses unit) = packing.Plain
body_packing (body.Fault code) = packing.Plain

pub record Recorded : Type 0 where
  pub packing : Packing
  pub fields : Fields

-- what stands under the head of a record: one line, and the fields under that
abbrev pub record_of : Scope → Forest → Recorded
record_of s Empty = record { packing = packing.Plain; fields = record { diags = []; fields = [] } }
record_of s (Tree l under following) = record { packing = body_packing l.body; fields = field_lines s [] under }
