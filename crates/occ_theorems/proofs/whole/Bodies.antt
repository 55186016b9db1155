-- The lines of records and of protocols, which are reported with their heads, without faults.
use Rattle.std.proofs.Common.{◌≡◌, ◌++◌, ◌||◌, ℕ, Bool, true, false, List, [], ◌∷◌, Option, Some, None, refl, ap, subst}
use Rattle.std.specs.List.{list_any}
use Rattle.occ_base.specs.declared.fault.Fault.{Fault}
use Rattle.occ_expr_operations.specs.Views.{expr_view}
use Rattle.occ_forms.specs.declared.tree.Detail.{Detail}
use Rattle.occ_forms.specs.declared.tree.Form.{Form}
use Rattle.occ_forms.specs.declared.tree.Form.TheVariants as form
use Rattle.occ_scope.specs.declared.scope.Scope.{Scope}
use Rattle.occ_project.specs.declared.expanded.ExpandedBody.{ExpandedBody}
use Rattle.occ_project.specs.declared.expanded.ExpandedBody.TheVariants as body
use Rattle.occ_project.specs.declared.expanded.ExpandedLine.{ExpandedLine}
use Rattle.occ_forms.specs.declared.specification_tree.Specification.{Specification}
use Rattle.occ_forms.specs.declared.specification_tree.Specification.TheVariants as specification
use Rattle.occ_forms.specs.declared.specification_tree.Specified.TheVariants as specified
use Rattle.occ_tree.specs.Forest.{Empty, Forest, Tree}
use Rattle.occ_tree.specs.Obeys.{Fits, ObeysUnder, root_sorts, sort_of}
use Rattle.occ_tree.specs.Sorts.{body_sort, is_element_part, is_type_part}
use Rattle.occ_tree.specs.Table.{may_stand}
use Rattle.occ_tree.specs.declared.row.Row.{Row}
use Rattle.occ_tree.specs.declared.row.Row.TheVariants as row
use Rattle.occ_typing_lines.specs.Placed.{placed}
use Rattle.occ_typing_lines.specs.Protocols.{body_tag, form_tag, protocol_of, tag_found, tag_lines, tag_named}
use Rattle.occ_typing_lines.specs.Records.{body_fields, field_lines, form_fields, record_of, specification_fields}
use Rattle.occ_types.specs.Unknown.{any_of, fields_unknown, holds_unknown, items_unknown, tags_unknown}
use Rattle.occ_types.specs.declared.types.Field.{Field}
use Rattle.occ_types.specs.declared.types.Tag.{Tag}
use Rattle.occ_typing.specs.Known.{IsKnownScope}
use Rattle.occ_theorems.proofs.whole.Clean.{back_clean, front_clean}
use Rattle.occ_theorems.proofs.whole.Protocols.{no_element_parts, tag_line_known}
use Rattle.occ_theorems.proofs.whole.Rows.{AllStand, StandIn, case_row, fits_stand, tag_parts}
use Rattle.occ_theorems.proofs.whole.Specifications.{field_line_known}

pub placed_clean : (l : ExpandedLine) (fs : List Fault) → placed l fs ≡ [] → fs ≡ []
placed_clean l [] e = refl
placed_clean l (f ∷ fs) e = absurd cc

-- ---- records

both_fields : (xs ys : List Field) → any_of (fields_unknown xs) ≡ false → any_of (fields_unknown ys) ≡ false → any_of (fields_unknown (xs ++ ys)) ≡ false
both_fields [] ys h g = g
both_fields (x ∷ xs) ys h g = first_field (holds_unknown x.of) (any_of (fields_unknown xs)) (any_of (fields_unknown (xs ++ ys))) h (λ k. both_fields xs ys k g) where
  first_field : (a b c : Bool) → (a || b) ≡ false → (b ≡ false → c ≡ false) → (a || c) ≡ false
  first_field true b c e k = absurd cc
  first_field false b c e k = k e

specification_fields_known : (s : Scope) (before : List (List ℕ)) (x : Specification) → IsKnownScope s → (specification_fields s before x).faults ≡ [] → any_of (fields_unknown (specification_fields s before x).fields) ≡ false
specification_fields_known s before (specification.Declaration of first more) known e = field_line_known s before of (first ∷ more) known e
specification_fields_known s before _ known e = refl

form_fields_known : (s : Scope) (before : List (List ℕ)) (x : Form) → IsKnownScope s → (form_fields s before x).faults ≡ [] → any_of (fields_unknown (form_fields s before x).fields) ≡ false
form_fields_known s before (form.Specified (specified.Line x)) known e = specification_fields_known s before x known e
form_fields_known s before _ known e = refl

body_fields_known : (s : Scope) (before : List (List ℕ)) (b : ExpandedBody) → IsKnownScope s → (body_fields s before b).faults ≡ [] → any_of (fields_unknown (body_fields s before b).fields) ≡ false
body_fields_known s before (body.Form f) known e = form_fields_known s before f known e
body_fields_known s before (body.Uses unit) known e = refl
body_fields_known s before (body.Fault code) known e = refl

field_lines_known : (s : Scope) (before : List (List ℕ)) (f : Forest) → IsKnownScope s → (field_lines s before f).diags ≡ [] → any_of (fields_unknown (field_lines s before f).fields) ≡ false
field_lines_known s before Empty known e = refl
field_lines_known s before (Tree l under following) known e =
    let x = body_fields s before l.body in
    let y = field_lines s (before ++ x.names) following in
    both_fields x.fields y.fields
    (body_fields_known s before l.body known (placed_clean l x.faults (front_clean (placed l x.faults) y.diags e)))
    (field_lines_known s (before ++ x.names) following known (back_clean (placed l x.faults) y.diags e))

pub record_fields_known : (s : Scope) (f : Forest) → IsKnownScope s → (record_of s f).fields.diags ≡ [] → any_of (fields_unknown (record_of s f).fields.fields) ≡ false
record_fields_known s Empty known e = refl
record_fields_known s (Tree l under following) known e = field_lines_known s [] under known e

-- ---- protocols

both_tags : (xs ys : List Tag) → any_of (tags_unknown xs) ≡ false → any_of (tags_unknown ys) ≡ false → any_of (tags_unknown (xs ++ ys)) ≡ false
both_tags [] ys h g = g
both_tags (x ∷ xs) ys h g = first_tag (any_of (items_unknown x.items)) (any_of (tags_unknown xs)) (any_of (tags_unknown (xs ++ ys))) h (λ k. both_tags xs ys k g) where
  first_tag : (a b c : Bool) → (a || b) ≡ false → (b ≡ false → c ≡ false) → (a || c) ≡ false
  first_tag true b c e k = absurd cc
  first_tag false b c e k = k e

found_known : (s : Scope) (before : List (List ℕ)) (name : List ℕ) (ds : List Detail) → no_element_parts ds → IsKnownScope s → (tag_found s before name ds).faults ≡ [] → any_of (tags_unknown (tag_found s before name ds).tags) ≡ false
found_known s before name ds is known e = ap (λ (b : Bool). b || false) (tag_line_known s before name ds is known e)

named_known : (s : Scope) (before : List (List ℕ)) (name : Option (List ℕ)) → IsKnownScope s → (tag_named s before name).faults ≡ [] → any_of (tags_unknown (tag_named s before name).tags) ≡ false
named_known s before None known e = refl
named_known s before (Some name) known e = found_known s before name [] refl known e

form_tag_known : (s : Scope) (before : List (List ℕ)) (x : Form) → may_stand row.Tags (body_sort (body.Form x)) ≡ true → IsKnownScope s → (form_tag s before x).faults ≡ [] → any_of (tags_unknown (form_tag s before x).tags) ≡ false
form_tag_known s before (form.Expressions e es) is known c = named_known s before (expr_view e).name known c
form_tag_known s before (form.Tagged name d ds) is known c =
    found_known s before name (d ∷ ds) (tag_parts (is_type_part d || list_any is_type_part ds) (is_element_part d || list_any is_element_part ds) is) known c
form_tag_known s before (form.Specified x) is known c = refl
form_tag_known s before form.Close is known c = refl
form_tag_known s before (form.Action a) is known c = refl
form_tag_known s before (form.Construct x) is known c = refl
form_tag_known s before (form.Part q) is known c = refl

body_tag_known : (s : Scope) (before : List (List ℕ)) (b : ExpandedBody) → may_stand row.Tags (body_sort b) ≡ true → IsKnownScope s → (body_tag s before b).faults ≡ [] → any_of (tags_unknown (body_tag s before b).tags) ≡ false
body_tag_known s before (body.Form f) is known e = form_tag_known s before f is known e
body_tag_known s before (body.Uses unit) is known e = refl
body_tag_known s before (body.Fault code) is known e = refl

tag_lines_known : (s : Scope) (before : List (List ℕ)) (f : Forest) → AllStand row.Tags (root_sorts f) → IsKnownScope s → (tag_lines s before f).diags ≡ [] → any_of (tags_unknown (tag_lines s before f).tags) ≡ false
tag_lines_known s before Empty h known e = refl
tag_lines_known s before (Tree l under following) h known e =
    let x = body_tag s before l.body in
    let y = tag_lines s (before ++ x.names) following in
    both_tags x.tags y.tags
    (body_tag_known s before l.body h.0 known (placed_clean l x.faults (front_clean (placed l x.faults) y.diags e)))
    (tag_lines_known s (before ++ x.names) following h.1 known (back_clean (placed l x.faults) y.diags e))

pub protocol_tags_known : (s : Scope) (f : Forest) → StandIn row.Case (root_sorts f) → ObeysUnder row.Case f → IsKnownScope s → (protocol_of s f).diags ≡ [] → any_of (tags_unknown (protocol_of s f).tags) ≡ false
protocol_tags_known s Empty h g known e = refl
protocol_tags_known s (Tree l under following) h g known e =
    tag_lines_known s [] under (fits_stand row.Tags (root_sorts under) (subst (λ (r : Row). Fits r (root_sorts under)) (case_row (sort_of l) h.all.0) g.0)).all known e
